-- Which values are slots: those of allocas, which the entry block makes.
use Rattle.std.proofs.Common.{◌≡◌, inl, inr, ⊎_elim, ℕ, suc, ◌+◌, ◌≤◌, Bool, true, false, List, [], ◌∷◌, refl, sym, ap, ◌∙◌, subst, arith}
use Rattle.std.specs.Prelude.{Option, Some, None, not, flat_map, slice_get, ◌==◌, if◌then◌else◌}
use Rattle.rule_laws.proofs.rules.counted.DefinedKinds.{block_once, blocks_once, kind_of_instr, parts_times, row_none, row_one}
use Rattle.ir_laws.proofs.facts.Truth.{either, equal_numbers, itself, holds as not_false}
use Rattle.rule_laws.proofs.rules.counted.Lists.{made_listed}
use Rattle.rule_laws.proofs.rules.counted.PartFacts.{block_passes}
use Rattle.rule_laws.proofs.rules.counted.Planned.{IsSlot}
use Rattle.ir_laws.proofs.paths.woven_rules.Once.{times_listed as listed_times}
use Rattle.ir_laws.proofs.facts.Lists.{times_joined, phi_names, row_of}
use Rattle.rule_uses.specs.Undefined.{Entry, Next, ReachesWithout, params_of}
use Rattle.rule_uses.specs.Uses.{phi_values, values_at, values_in}
use Rattle.ir_laws.proofs.facts.Members.{at_each}
use Rattle.rule_laws.proofs.rules.local_rules.Names.{numbers}
use Rattle.rule_laws.proofs.rules.source_rules.Locals.{block_names, made_by}
use Rattle.ir_laws.proofs.paths.source_rules.Locals.{in_row, listed_either, listed_left, listed_right}
use Rattle.ir_laws.specs.flow_solver.Paths.{IsListed}
use Rattle.ir_laws.specs.ir_model.Layout.{size_of}
use Rattle.ir_laws.specs.ir_model.Ty.{Ty, int}
use Rattle.ir_laws.specs.ir_model.declared.instr.Instr.{Instr}
use Rattle.ir_laws.specs.ir_model.declared.module.Block.{Block}
use Rattle.ir_laws.specs.ir_model.declared.module.Function.{Function}
use Rattle.ir_laws.specs.ir_model.declared.module.Module.{Module}
use Rattle.ir_laws.specs.ir_paths.Slots.{allocas_in, allocas_of}
use Rattle.rule_locals.specs.Entries.{allocates_late, first_late_alloca, is_past_entry}
use Rattle.rule_locals.specs.Instrs.{on_instr}
use Rattle.rule_locals.specs.Markers.{block_size, made_size, slot_size}
use Rattle.rule_values.specs.declared.kinds.Kind.{Kind}
use Rattle.ir_laws.specs.facts.woven_rules.Pairs.{one_if, times}

-- ---- sizes of slots: of a number that is defined once, what its definition makes

size_other : (m : Module) (n : ℕ) (i : Instr) → times n (made_by i) ≡ 0 → made_size m i n ≡ None
size_other m n (Instr.Alloca r ty align) h = on (r == n) refl h
  where
    on : (b : Bool) → (r == n) ≡ b → one_if b + 0 ≡ 0 → (if b then Some (size_of m ty) else None) ≡ None
    on true e k = absurd (omega (arith, k))
    on false e k = refl
size_other m n _ h = refl

module _ (m : Module) (n : ℕ) where
  block_other : (b : Block) → times n (block_names b) ≡ 0 → block_size m b n ≡ None
  block_other b h = let all = parts_times n b in row_none (made_size m) made_by n (size_other m n) b.instrs (omega (arith, all, h))

  module _ (f : Function) (once : times n (numbers f) ≤ 1) where
    pub param_size : IsListed n (params_of f) → slot_size m f n ≡ None
    param_size l =
        let both = times_joined n (params_of f) (row_of block_names f.blocks) in
        let some : 1 ≤ times n (params_of f) = listed_times n (params_of f) l in
        row_none (block_size m) block_names n block_other f.blocks (omega (arith, both, some, once))

    pub phi_size : (k : ℕ) (b : Block) → slice_get f.blocks k ≡ Some b → IsListed n (phi_names b.phis) → slot_size m f n ≡ None
    phi_size k b e l =
        let all = parts_times n b in
        let one = block_once f n once k b e in
        let some : 1 ≤ times n (phi_names b.phis) = listed_times n (phi_names b.phis) l in
        row_one (block_size m) block_names n block_other f.blocks (blocks_once f n once) k b e (inr (listed_left n (phi_names b.phis) (row_of made_by b.instrs) l))
        ∙ row_none (made_size m) made_by n (size_other m n) b.instrs (omega (arith, all, one, some))

    pub instr_size : (k : ℕ) (b : Block) (at : ℕ) (i : Instr) → slice_get f.blocks k ≡ Some b → slice_get b.instrs at ≡ Some i → IsListed n (made_by i) → slot_size m f n ≡ made_size m i n
    instr_size k b at i e there l =
        let all = parts_times n b in
        let one = block_once f n once k b e in
        let listed : IsListed n (row_of made_by b.instrs) = in_row made_by b.instrs at n i there l in
        row_one (block_size m) block_names n block_other f.blocks (blocks_once f n once) k b e (inr (listed_right n (phi_names b.phis) (row_of made_by b.instrs) listed))
        ∙ row_one (made_size m) made_by n (size_other m n) b.instrs (omega (arith, all, one)) at i there l

-- ---- allocas

pub record AllocaAt (bs : List Block) (n : ℕ) : Type 0 where
  pub position : ℕ
  pub block : Block
  pub got : slice_get bs position ≡ Some block
  pub at : ℕ
  pub ty : Ty
  pub align : ℕ
  pub stands : slice_get block.instrs at ≡ Some (Instr.Alloca n ty align)

pub record AllocaIn (is : List Instr) (n : ℕ) : Type 0 where
  pub at : ℕ
  pub ty : Ty
  pub align : ℕ
  pub stands : slice_get is at ≡ Some (Instr.Alloca n ty align)

later : (i : Instr) (is : List Instr) (n : ℕ) → AllocaIn is n → AllocaIn (i ∷ is) n
later i is n x = record { at = suc x.at; ty = x.ty; align = x.align; stands = x.stands }

alloca_in : (is : List Instr) (n : ℕ) → IsListed n (allocas_in is) → AllocaIn is n
alloca_in [] n h = absurd h
alloca_in (Instr.Alloca r ty align ∷ is) n (inl e) = record { at = 0; ty = ty; align = align; stands = ap (λ (k : ℕ). Some (Instr.Alloca k ty align)) (sym e) }
alloca_in (Instr.Alloca r ty align ∷ is) n (inr h) = later (Instr.Alloca r ty align) is n (alloca_in is n h)
alloca_in (Instr.Binary r op flags ty a b ∷ is) n h = later (Instr.Binary r op flags ty a b) is n (alloca_in is n h)
alloca_in (Instr.Icmp r pred ty a b ∷ is) n h = later (Instr.Icmp r pred ty a b) is n (alloca_in is n h)
alloca_in (Instr.Select r c a b ∷ is) n h = later (Instr.Select r c a b) is n (alloca_in is n h)
alloca_in (Instr.Cast r op nneg a to ∷ is) n h = later (Instr.Cast r op nneg a to) is n (alloca_in is n h)
alloca_in (Instr.Load r ty x align ∷ is) n h = later (Instr.Load r ty x align) is n (alloca_in is n h)
alloca_in (Instr.Store a x align ∷ is) n h = later (Instr.Store a x align) is n (alloca_in is n h)
alloca_in (Instr.Gep r inbounds ty x args ∷ is) n h = later (Instr.Gep r inbounds ty x args) is n (alloca_in is n h)
alloca_in (Instr.Call r must_tail ty c args ∷ is) n h = later (Instr.Call r must_tail ty c args) is n (alloca_in is n h)

alloca_at : (bs : List Block) (n : ℕ) → IsListed n (flat_map (λ b. allocas_in b.instrs) bs) → AllocaAt bs n
alloca_at [] n h = absurd h
alloca_at (b ∷ bs) n h =
    ⊎_elim
    (λ a. let x = alloca_in b.instrs n a in record { position = 0; block = b; got = refl; at = x.at; ty = x.ty; align = x.align; stands = x.stands })
    (λ l. let x = alloca_at bs n l in record { position = suc x.position; block = x.block; got = x.got; at = x.at; ty = x.ty; align = x.align; stands = x.stands })
    (listed_either n (allocas_in b.instrs) (flat_map (λ c. allocas_in c.instrs) bs) h)

-- no path leads to another block without what the entry block makes
entry_passed : (f : Function) (v : ℕ) → IsListed v (values_at f 0) → (block : ℕ) → (block ≡ 0 → ⊥) → ReachesWithout f v block → ⊥
entry_passed f v made _ other Entry = other refl
entry_passed f v made _ other (Next from to path without edge) =
    ⊎_elim (λ e. without (subst (λ (n : ℕ). IsListed v (values_at f n)) (sym e) made)) (λ ne. entry_passed f v made from ne path) (either from 0)

-- an alloca is a slot from which distances may be kept
pub alloca_slot : (m : Module) (k : ℕ) (f : Function) (n : ℕ) → times n (numbers f) ≤ 1 → first_late_alloca k f ≡ None → IsListed n (allocas_of f) → IsSlot f (int 64) n
alloca_slot m k f n once early h =
    let x = alloca_at f.blocks n h in
    let b : Block = x.block in
    let i : Instr = Instr.Alloca n x.ty x.align in
    let late = at_each _ b.instrs x.at i (block_passes (on_instr allocates_late) k f early x.position b x.got).instrs x.stands in
    let past : not (x.position == 0) ≡ false = ap is_past_entry (sym late.1) ∙ late.2 in
    let first : x.position ≡ 0 = equal_numbers x.position 0 (not_false (x.position == 0) past) in
    let got : slice_get f.blocks 0 ≡ Some b = ap (slice_get f.blocks) (sym first) ∙ x.got in
    let made : IsListed n (values_at f 0) = subst (λ (o : Option Block). IsListed n (values_in o)) (sym got) (made_listed b.instrs (phi_values b) n (in_row made_by b.instrs x.at n i x.stands (inl refl))) in
    record {
      wide = refl;
      kind = kind_of_instr f n once x.position b x.at i x.got x.stands refl ∙ ap (λ (t : Bool). if t then Some Kind.Ptr else None) (itself n);
      made = entry_passed f n made;
      alloca = h;
    }

-- an alloca has a size
pub alloca_sized : (m : Module) (f : Function) (n : ℕ) → times n (numbers f) ≤ 1 → IsListed n (allocas_of f) → slot_size m f n ≡ None → ⊥
alloca_sized m f n once h none =
    let x = alloca_at f.blocks n h in
    let i : Instr = Instr.Alloca n x.ty x.align in
    let both : Some (size_of m x.ty) ≡ None = sym (instr_size m n f once x.position x.block x.at i x.got x.stands (inl refl) ∙ ap (λ (t : Bool). if t then Some (size_of m x.ty) else None) (itself n)) ∙ none in
    absurd (cc)
