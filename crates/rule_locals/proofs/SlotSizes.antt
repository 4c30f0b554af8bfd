-- Markers by sizes that are cut off.
use Rattle.std.proofs.Common.{◌≡◌, ◌-◌, ◌≤◌, ℕ, Bool, true, false, ◌&&◌, List, [], ◌∷◌, refl, ap, sym, ◌∙◌, arith, Option, Some, None}
use Rattle.std.specs.Prelude.{option_map, nat_le, not, ◌||◌, ◌==◌, ◌^◌, ℤ, pos, negsuc}
use Rattle.std.proofs.lemmas.Bool.{eqb-true, leb-true, leb-false}
use Rattle.ir_base.specs.declared.outcome.Place.{Place}
use Rattle.ir_parts.specs.Parts.{first_part, parts_of}
use Rattle.run_ints.specs.Numbers.{bits_of}
use Rattle.ir_model.specs.declared.instr.Instr.{Instr}
use Rattle.ir_model.specs.declared.module.Block.{Block}
use Rattle.ir_model.specs.declared.module.Function.{Function}
use Rattle.ir_model.specs.declared.module.Module.{Module}
use Rattle.ir_model.specs.declared.operand.Arg.{Arg}
use Rattle.ir_model.specs.declared.operand.Operand.{Operand}
use Rattle.rule_locals.specs.Instrs.{on_instr}
use Rattle.rule_locals.specs.Markers.{made_size, block_size, slot_size, is_size_or_all, marks, marks_size, marks_slot, marks_otherwise, first_other_mark, is_marker}
use Rattle.rule_locals.specs.Slots.{cut_size, cut_block}
use Rattle.ir_locals.specs.Tables.{first_in, or_first}
use Rattle.ir_locals.proofs.Notes.{first_in-map, from_empty}
use Rattle.ir_sizes.specs.Cut.{capped}

pub block_noted : (m : Module) (b : Block) (instrs : List Instr) (old new : ℕ → Option ℕ) → instrs ≡ b.instrs → ((n : ℕ) → new n ≡ or_first (old n) (first_in (cut_size m) instrs n)) → (n : ℕ) → new n ≡ or_first (old n) (cut_block m b n)
block_noted m b instrs old new e h n = h n ∙ ap (λ (l : List Instr). or_first (old n) (first_in (cut_size m) l n)) e

-- the table has the sizes of the allocas
cut_blocks : (m : Module) (b : Block) (n : ℕ) → cut_block m b n ≡ option_map capped (block_size m b n)
cut_blocks m b n = first_in-map capped (made_size m) (cut_size m) (λ i k. refl) b.instrs n

pub slots_noted : (m : Module) (f : Function) (blocks : List Block) (old new : ℕ → Option ℕ) → blocks ≡ f.blocks → ((n : ℕ) → old n ≡ None) → ((n : ℕ) → new n ≡ or_first (old n) (first_in (cut_block m) blocks n)) → (n : ℕ) → new n ≡ option_map capped (slot_size m f n)
slots_noted m f blocks old new e h g n =
    from_empty old new (λ k. first_in (cut_block m) blocks k) h g n
    ∙ ap (λ (l : List Block). first_in (cut_block m) l n) e
    ∙ first_in-map capped (block_size m) (cut_block m) (cut_blocks m) f.blocks n

-- ---- a size that is cut off, beside -1

or-true : (a : Bool) → (a || true) ≡ true
or-true true = refl
or-true false = refl

unequal : (a b : ℕ) → (a ≡ b → ⊥) → (a == b) ≡ false
unequal a b h = by (a == b) refl
  where
    by : (r : Bool) → (a == b) ≡ r → (a == b) ≡ false
    by true e = absurd (h (eqb-true a b e))
    by false e = e

same-size : (w s : ℕ) (b : Bool) → nat_le s (2 ^ 64 - 1) ≡ b → w ≤ 2 ^ 64 - 1 → (w == 2 ^ 64 - 1) ≡ false → (w == capped s) ≡ (w == s)
same-size w s true e le differ =
    let small = leb-true s (2 ^ 64 - 1) e in
    let same : capped s ≡ s = omega arith in ap (λ (k : ℕ). w == k) same
same-size w s false e le differ =
    let big = leb-false s (2 ^ 64 - 1) e in
    let same : capped s ≡ 2 ^ 64 - 1 = omega arith in
    ap (λ (k : ℕ). w == k) same ∙ differ ∙ sym (unequal w s (omega arith))

all-or : (w s : ℕ) (b : Bool) → (w == 2 ^ 64 - 1) ≡ b → w ≤ 2 ^ 64 - 1 → ((w == capped s) || b) ≡ ((w == s) || b)
all-or w s true e le = or-true (w == capped s) ∙ sym (or-true (w == s))
all-or w s false e le = ap (λ (x : Bool). x || false) (same-size w s (nat_le s (2 ^ 64 - 1)) refl le e)

word-fits : (z : ℤ) → bits_of 64 z ≤ 2 ^ 64 - 1
word-fits (pos n) = omega arith
word-fits (negsuc n) = omega arith

size-or-all : (x : Operand) (s : ℕ) → is_size_or_all x (capped s) ≡ is_size_or_all x s
size-or-all (Operand.Number z) s = all-or (bits_of 64 z) s (bits_of 64 z == 2 ^ 64 - 1) refl (word-fits z)
size-or-all (Operand.Local n) s = refl
size-or-all (Operand.Global n) s = refl
size-or-all Operand.True s = refl
size-or-all Operand.False s = refl
size-or-all Operand.Null s = refl
size-or-all Operand.None s = refl
size-or-all Operand.Poison s = refl

sizes-by : (x : Operand) (o : Option ℕ) → marks_size x (option_map capped o) ≡ marks_size x o
sizes-by x None = refl
sizes-by x (Some s) = size-or-all x s

slots-by : (cut sizes : ℕ → Option ℕ) (x y : Operand) → ((n : ℕ) → cut n ≡ option_map capped (sizes n)) → marks_slot cut x y ≡ marks_slot sizes x y
slots-by cut sizes x (Operand.Local v) h = ap (marks_size x) (h v) ∙ sizes-by x (sizes v)
slots-by cut sizes x (Operand.Global n) h = refl
slots-by cut sizes x (Operand.Number z) h = refl
slots-by cut sizes x Operand.True h = refl
slots-by cut sizes x Operand.False h = refl
slots-by cut sizes x Operand.Null h = refl
slots-by cut sizes x Operand.None h = refl
slots-by cut sizes x Operand.Poison h = refl

args-by : (cut sizes : ℕ → Option ℕ) (args : List Arg) → ((n : ℕ) → cut n ≡ option_map capped (sizes n)) → marks cut args ≡ marks sizes args
args-by cut sizes [] h = refl
args-by cut sizes (a ∷ []) h = refl
args-by cut sizes (a ∷ b ∷ []) h = slots-by cut sizes a.value b.value h
args-by cut sizes (a ∷ b ∷ d ∷ rest) h = refl

instr-by : (cut sizes : ℕ → Option ℕ) (place : Place) (i : Instr) → ((n : ℕ) → cut n ≡ option_map capped (sizes n)) → marks_otherwise cut place i ≡ marks_otherwise sizes place i
instr-by cut sizes place (Instr.Call r must_tail ty callee args) h = ap (λ (b : Bool). is_marker callee && not b) (args-by cut sizes args h)
instr-by cut sizes place (Instr.Binary r op flags ty left right) h = refl
instr-by cut sizes place (Instr.Icmp r pred ty left right) h = refl
instr-by cut sizes place (Instr.Select r c a b) h = refl
instr-by cut sizes place (Instr.Cast r op nneg arg to) h = refl
instr-by cut sizes place (Instr.Alloca r ty align) h = refl
instr-by cut sizes place (Instr.Load r ty address align) h = refl
instr-by cut sizes place (Instr.Store arg address align) h = refl
instr-by cut sizes place (Instr.Gep r inbounds ty base indices) h = refl

pub marks_by_table : (m : Module) (k : ℕ) (f : Function) (cut : ℕ → Option ℕ) → ((n : ℕ) → cut n ≡ option_map capped (slot_size m f n)) → first_part (on_instr (marks_otherwise cut)) (parts_of k f) ≡ first_other_mark m k f
marks_by_table m k f cut h =
    let same : marks_otherwise cut ≡ marks_otherwise (slot_size m f) = λ j place i. instr-by cut (slot_size m f) place i h j in
    ap (λ (b : Place → Instr → Bool). first_part (on_instr b) (parts_of k f)) same
