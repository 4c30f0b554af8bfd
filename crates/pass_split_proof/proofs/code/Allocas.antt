-- The allocas in front of a coroutine, and those of its parts that go on.
use Rattle.std.proofs.Common.{◌≡◌, ℕ, zero, suc, ◌<◌, Bool, true, false, List, [], ◌∷◌, ◌++◌, length, refl, sym, ap, ◌∙◌, arith}
use Rattle.std.specs.Prelude.{None, Option, Some, drop, filter, option_map, slice_get, if◌then◌else◌, ◌==◌}
use Rattle.pass_proofs.proofs.ir_laws.facts.Lists.{get_front}
use Rattle.pass_proofs.specs.ir_model.declared.instr.Instr.{Instr}
use Rattle.pass_proofs.specs.ir_model.declared.module.Block.{Block}
use Rattle.pass_proofs.specs.ir_model.declared.module.Function.{Function}
use Rattle.pass_proofs.specs.ir_paths.declared.point.Point.{Point}
use Rattle.pass_proofs.specs.pass_front.Front.{allocas_first, allocas_of, is_alloca, is_no_alloca}
use Rattle.pass_split_proof.specs.code.Entry.{IsAllocaAt}
use Rattle.pass_proofs.specs.run_framed.Framed.{alloca_from, alloca_in, alloca_of}
use Rattle.pass_proofs.specs.run_laws.changed.Changed.{Each}
use Rattle.pass_proofs.specs.run_step.Effects.{is_alloca as makes_slot}
use Rattle.pass_proofs.specs.run_step.Step.{AtInstr, fetch, fetch_in, fetch_or}

same_test : (i : Instr) → makes_slot i ≡ is_alloca i
same_test (Instr.Alloca result ty align) = refl
same_test _ = refl

are_allocas : (is : List Instr) → Each (λ (i : Instr). is_alloca i ≡ true) (filter is_alloca is)
are_allocas [] = tt
are_allocas (i ∷ is) = on (is_alloca i) refl (are_allocas is)
  where
    on : (b : Bool) → is_alloca i ≡ b → Each (λ (j : Instr). is_alloca j ≡ true) (filter is_alloca is)
        → Each (λ (j : Instr). is_alloca j ≡ true) (if b then i ∷ filter is_alloca is else filter is_alloca is)
    on true e h = (e, h)
    on false e h = h

none_left : (at : ℕ) (is : List Instr) → alloca_in at (filter is_no_alloca is) ≡ None
none_left at [] = refl
none_left at (i ∷ is) = on (is_alloca i) refl (λ n. none_left n is)
  where
    on : (b : Bool) → is_alloca i ≡ b → ((n : ℕ) → alloca_in n (filter is_no_alloca is) ≡ None)
        → alloca_in at (if (if b then false else true) then i ∷ filter is_no_alloca is else filter is_no_alloca is) ≡
        None
    on true e more = more at
    on false e more = ap (λ (b : Bool). if b then Some at else alloca_in (suc at) (filter is_no_alloca is))
        (same_test i ∙ e) ∙ more (suc at)

one_first : (n at : ℕ) (xs ys : List Instr) → Each (λ (i : Instr). is_alloca i ≡ true) xs → at < length xs
    → alloca_in n (drop at (xs ++ ys)) ≡ Some n
one_first n at [] ys h low = absurd (omega (arith, low))
one_first n zero (x ∷ xs) ys h low = ap (λ (b : Bool). if b then Some n else alloca_in (suc n) (xs ++ ys)) (same_test x
    ∙ h.0)
one_first n (suc at) (x ∷ xs) ys h low = one_first n at xs ys h.1 (omega (arith, low))

all_dropped : (xs ys : List Instr) → drop (length xs) (xs ++ ys) ≡ ys
all_dropped [] ys = refl
all_dropped (x ∷ xs) ys = all_dropped xs ys

one_there : (at : ℕ) (xs : List Instr) → Each (λ (i : Instr). is_alloca i ≡ true) xs → at < length xs → (i : Instr)
    × ((slice_get xs at ≡ Some i) × (is_alloca i ≡ true))
one_there at [] h low = absurd (omega (arith, low))
one_there zero (x ∷ xs) h low = (x, (refl, h.0))
one_there (suc at) (x ∷ xs) h low = one_there at xs h.1 (omega (arith, low))

-- what is fetched of a block by its instructions alone
pub by_instrs : (h : Function) (q at : ℕ) (b : Block) (i : Instr) → slice_get h.blocks q ≡ Some b
    → slice_get b.instrs at ≡ Some i → fetch h q at ≡ AtInstr i
by_instrs h q at b i there stands = ap (λ (o : Option Block). fetch_in o at) there
    ∙ ap (λ (o : Option Instr). fetch_or o (at == length b.instrs) b.term) stands

pub of_instrs : (h : Function) (q at : ℕ) (b : Block) (i : Instr) → slice_get h.blocks q ≡ Some b
    → fetch h q at ≡ AtInstr i → slice_get b.instrs at ≡ Some i
of_instrs h q at b i there e = on (slice_get b.instrs at) refl (at
    == length b.instrs) (sym (ap (λ (o : Option Block). fetch_in o at) there) ∙ e)
  where
    on : (o : Option Instr) → slice_get b.instrs at ≡ o → (last : Bool) → fetch_or o last b.term ≡ AtInstr i
        → slice_get b.instrs at ≡ Some i
    on (Some j) d last k = let same : j ≡ i = cc in d ∙ ap (λ (x : Instr). Some x) same
    on None d true k = absurd (cc)
    on None d false k = absurd (cc)

module _ (f : Function) (r : Block) (there : slice_get f.blocks 0 ≡ Some r) (front : allocas_first r ≡ r) where
  instrs_are : r.instrs ≡ filter is_alloca r.instrs ++ filter is_no_alloca r.instrs
  instrs_are = ap (λ (b : Block). b.instrs) (sym front)

  pub allocas_are : allocas_of f.blocks ≡ filter is_alloca r.instrs
  allocas_are = on f.blocks there
    where
      on : (bs : List Block) → slice_get bs 0 ≡ Some r → allocas_of bs ≡ filter is_alloca r.instrs
      on [] e = absurd (cc)
      on (b ∷ bs) e = let same : b ≡ r = cc in ap (λ (c : Block). filter is_alloca c.instrs) same

  abbrev at_point : ℕ → Point
  at_point k = record { block = 0; at = k }

  pub next_alloca : (at : ℕ) → at < length (filter is_alloca r.instrs)
      → alloca_from f at ≡ Some (record { block = 0; at = at })
  next_alloca at low =
      ap (λ (o : Option Block). option_map at_point (alloca_of o at)) there
      ∙ ap (λ (is : List Instr). option_map at_point (alloca_in at (drop at is))) instrs_are
      ∙ ap (option_map at_point) (one_first at at (filter is_alloca r.instrs) (filter is_no_alloca r.instrs)
      (are_allocas r.instrs) low)

  pub no_alloca : alloca_from f (length (filter is_alloca r.instrs)) ≡ None
  no_alloca =
      let n : ℕ = length (filter is_alloca r.instrs) in
      ap (λ (o : Option Block). option_map at_point (alloca_of o n)) there
      ∙ ap (λ (is : List Instr). option_map at_point (alloca_in n (drop n is))) instrs_are
      ∙ ap (λ (is : List Instr). option_map at_point (alloca_in n is)) (all_dropped (filter is_alloca r.instrs)
      (filter is_no_alloca r.instrs))
      ∙ ap (option_map at_point) (none_left n r.instrs)

  pub alloca_there : (at : ℕ) → at < length (filter is_alloca r.instrs) → IsAllocaAt f at
  alloca_there at low =
      let y = one_there at (filter is_alloca r.instrs) (are_allocas r.instrs) low in
      on y.0 y.1.1 (by_instrs f 0 at r y.0 there (ap (λ (is : List Instr). slice_get is at) instrs_are
      ∙ get_front (filter is_alloca r.instrs) (filter is_no_alloca r.instrs) at low ∙ y.1.0))
    where
      on : (i : Instr) → is_alloca i ≡ true → fetch f 0 at ≡ AtInstr i → IsAllocaAt f at
      on (Instr.Alloca name ty align) e here = record { name = name; ty = ty; align = align; here = here }
      on _ e here = absurd (cc)

  -- a block with the same allocas in front has the same there
  pub alike : (g : Function) (e : Block) (more : List Instr) → slice_get g.blocks 0 ≡ Some e
      → e.instrs ≡ filter is_alloca r.instrs ++ more → (at : ℕ) → at < length (filter is_alloca r.instrs) → (i : Instr)
      → fetch f 0 at ≡ AtInstr i → fetch g 0 at ≡ AtInstr i
  alike g e more stands same at low i here =
      by_instrs g 0 at e i stands
      (ap (λ (is : List Instr). slice_get is at) same ∙ get_front (filter is_alloca r.instrs) more at low
      ∙ sym (get_front (filter is_alloca r.instrs) (filter is_no_alloca r.instrs) at low)
      ∙ ap (λ (is : List Instr). slice_get is at) (sym instrs_are) ∙ of_instrs f 0 at r i there here)
