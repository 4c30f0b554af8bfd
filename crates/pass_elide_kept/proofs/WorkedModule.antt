-- The worked module keeps what is asked beside its places.
use Rattle.std.proofs.Common.{◌≡◌, ◌≢◌, ◌+◌, ◌∙◌, ◌&&◌, ◌||◌, ◌==◌, ◌∷◌, [], ap, arith, Bool, false, inl, inr, length, List, Option, refl, subst, suc, sym, true, zero, ℕ, if◌then◌else◌}
use Rattle.std.specs.List.{list_all}
use Rattle.std.specs.Option.{option_map_or}
use Rattle.std.specs.Prelude.{IsFalse, None, Some, not, slice_get}
use Rattle.elide_sites.specs.Destroyed.{IsOn, has_at, is_stop}
use Rattle.elide_sites.specs.declared.destroyed.Way.{Way}
use Rattle.pass_elide_kept.proofs.Past.{same_targets}
use Rattle.pass_elide_kept.specs.Modules.{BeginsAlone, IsEnteredFrom, KeepsHandlesAndEnds, LeadsOut, PassesAllocation, PassesFree}
use Rattle.pass_elide_proof.proofs.CallersWorked.{worked_handles, worked_returns, worked_save}
use Rattle.pass_elide_proof.proofs.Facts.{some_none}
use Rattle.pass_elide_proof.proofs.PlacingChecked.{or_other, tested_at, unset}
use Rattle.pass_elide_proof.proofs.PlacingFacts.{by_truth}
use Rattle.pass_elide_proof.proofs.PlacingWorked.{shape_none}
use Rattle.pass_elide_proof.specs.CallersStack.{ReturnsFrame}
use Rattle.pass_elide_proof.specs.Edges.{phis_at}
use Rattle.pass_elide_proof.specs.Elision.{Shape, function_in}
use Rattle.pass_elide_proof.specs.Places.{instrs_of}
use Rattle.pass_elide_proof.specs.Placing.{HasShape}
use Rattle.pass_elide_proof.specs.Worked.{a_caller, a_coroutine, the_elision, waits_at}
use Rattle.pass_elide_proof.proofs.pass_proofs.ir_laws.facts.Truth.{and_first, and_second, equal_numbers, itself, not_equal}
use Rattle.pass_elide_proof.specs.pass_proofs.flow_solver.Paths.{IsListed}
use Rattle.pass_elide_proof.specs.pass_proofs.ir_model.Names.{position_of}
use Rattle.pass_elide_proof.specs.pass_proofs.ir_model.declared.instr.Instr.{Instr}
use Rattle.pass_elide_proof.specs.pass_proofs.ir_model.declared.instr.Phi.{Phi}
use Rattle.pass_elide_proof.specs.pass_proofs.ir_model.declared.module.Block.{Block}
use Rattle.pass_elide_proof.specs.pass_proofs.ir_model.declared.module.Function.{Function}
use Rattle.pass_elide_proof.specs.pass_proofs.ir_model.declared.operand.Intrinsic.{Intrinsic}
use Rattle.pass_elide_proof.specs.pass_proofs.ir_parts.Contents.{result_of}
use Rattle.pass_elide_proof.specs.pass_proofs.ir_paths.Paths.{targets}
use Rattle.pass_elide_proof.specs.pass_proofs.ir_paths.Windows.{is_call_of}
use Rattle.pass_elide_proof.specs.pass_proofs.run_laws.changed.Changed.{Each}
use Rattle.pass_elide_proof.specs.pass_proofs.run_step.Step.{fetch, phis_of}

-- ---- edges that pass a test

abbrev every_edge : (ℕ → ℕ → Bool) → (block : ℕ) → List Block → Bool
every_edge test block [] = true
every_edge test block (b ∷ bs) = list_all (test block) (targets b.term) && every_edge test (block + 1) bs

listed_all : (p : ℕ → Bool) (xs : List ℕ) (v : ℕ) → list_all p xs ≡ true → IsListed v xs → p v ≡ true
listed_all p [] v h k = absurd k
listed_all p (x ∷ xs) v h (inl e) = ap p e ∙ and_first (p x) (list_all p xs) h
listed_all p (x ∷ xs) v h (inr k) = listed_all p xs v (and_second (p x) (list_all p xs) h) k

module _ (test : ℕ → ℕ → Bool) where
  at_edge : (block : ℕ) (bs : List Block) (k p label : ℕ) (b : Block) → every_edge test block bs ≡ true
      → slice_get bs k ≡ Some b → IsListed label (targets b.term) → p ≡ block + k → test p label ≡ true
  at_edge block [] k p label b h there among is = absurd (cc)
  at_edge block (x ∷ bs) zero p label b h there among is =
      let same : x ≡ b = cc in
      let here : block ≡ p = omega (arith, is) in
      subst (λ (n : ℕ). test n label ≡ true) here
      (listed_all (test block) (targets x.term) label
      (and_first (list_all (test block) (targets x.term)) (every_edge test (block + 1) bs) h)
      (subst (λ (y : Block). IsListed label (targets y.term)) (sym same) among))
  at_edge block (x ∷ bs) (suc k) p label b h there among is =
      at_edge (block + 1) bs k p label b
      (and_second (list_all (test block) (targets x.term)) (every_edge test (block + 1) bs) h) there among
      (omega (arith, is))

  edge_tested : (f : Function) (from label : ℕ) → every_edge test 0 f.blocks ≡ true → LeadsOut f from label
      → test from label ≡ true
  edge_tested f from label h leads =
      at_edge 0 f.blocks from from label leads.block h leads.there leads.among (omega arith)

-- ---- no edge leads to an entry block

abbrev entry_ok : Function → ℕ → ℕ → Bool
entry_ok f from label = not (position_of f label == 0)

no_entry : (f : Function) (from label : ℕ) → every_edge (entry_ok f) 0 f.blocks ≡ true → LeadsOut f from label
    → position_of f label ≢ 0
no_entry f from label h leads =
    not_equal (position_of f label) 0
    (unset (position_of f label == 0) (edge_tested (entry_ok f) f from label h leads))

entries : (func from label : ℕ) → LeadsOut (function_in the_elision func) from label
    → position_of (function_in the_elision func) label ≢ 0
entries zero from label leads = no_entry a_coroutine from label refl leads
entries (suc zero) from label leads = no_entry a_caller from label refl leads
entries (suc (suc n)) from label leads = absurd (let no = leads.there in cc)

-- ---- the allocator's block

abbrev allocates_ok : ℕ → ℕ → Bool
allocates_ok from label = not (position_of a_coroutine label == 2) || (from == 0)

allocation_entered : IsEnteredFrom a_coroutine 2 0
allocation_entered from label leads to =
    equal_numbers from 0
    (or_other (not (position_of a_coroutine label == 2)) (from == 0)
    (edge_tested allocates_ok a_coroutine from label refl leads) (λ j. not (to j == 2)))

block_waits : (block other : ℕ) → waits_at block ≡ Some other → (block ≡ 2) × (other ≡ 0)
block_waits block other is =
    by_truth (block == 2)
    (λ e. (
      equal_numbers block 2 e,
      let one : Some 0 ≡ Some other = sym (ap (λ (b : Bool). if b then Some 0 else None) e) ∙ is in same other one,
    ))
    (λ no. absurd (some_none (waits_at block) other is (ap (λ (b : Bool). if b then Some 0 else None) no)))
  where
    same : (n : ℕ) → Some 0 ≡ Some n → n ≡ 0
    same n e = cc

allocation_passed : (k : HasShape the_elision 0) → PassesAllocation the_elision 0 k
allocation_passed k =
    let at = block_waits k.asks.allocates k.asks.asks k.asks.waits in
    record {
      entered = subst (λ (q : ℕ × ℕ). IsEnteredFrom a_coroutine q.0 q.1) (λ j. (sym at.0 j, sym at.1 j))
          allocation_entered;
      apart = λ same.
          let targets = same_targets k.asks.need 3 k.asks.one 4 k.asks.other 18
          (sym k.asks.branch ∙ (λ j. fetch a_coroutine (at.1 j) (length (instrs_of a_coroutine (at.1 j))))) in
          let beside : k.asks.beside ≡ 1
          = sym k.asks.to_beside ∙ ap (position_of a_coroutine) targets.1 in
          let two = at.0 in
          absurd (omega (arith, same, beside, two));
    }

no_shape_there : (n : ℕ) → HasShape the_elision (suc n) → ⊥
no_shape_there n k =
    some_none ((the_elision.shape (suc n)).waits k.asks.allocates) k.asks.asks k.asks.waits
    (ap (λ (x : Shape). x.waits k.asks.allocates) (shape_none n))

-- ---- begin's name

abbrev is_nine : Option ℕ → Bool
is_nine o = option_map_or (λ v. v == 9) o false

abbrev alone_ok : ℕ → ℕ → Instr → Bool
alone_ok block at i = not (is_nine (result_of i)) || is_call_of Intrinsic.CoroBegin i

abbrev named_ok : ℕ → ℕ → Instr → Bool
named_ok block at i = not (is_call_of Intrinsic.CoroBegin i) || is_nine (result_of i)

abbrev phi_ok : Phi → Bool
phi_ok p = not (p.result == 9)

each_apart : (ps : List Phi) → list_all phi_ok ps ≡ true → Each (λ (p : Phi). p.result ≡ 9 → ⊥) ps
each_apart [] h = tt
each_apart (p ∷ ps) h = (
  λ is. not_equal p.result 9 (unset (p.result == 9) (and_first (phi_ok p) (list_all phi_ok ps) h)) is,
  each_apart ps (and_second (phi_ok p) (list_all phi_ok ps) h),
)

phis_apart : (bs : List Block) (block : ℕ) → list_all (λ (b : Block). list_all phi_ok b.phis) bs ≡ true
    → Each (λ (p : Phi). p.result ≡ 9 → ⊥) (phis_of (slice_get bs block))
phis_apart [] block h = tt
phis_apart (b ∷ bs) zero h =
    each_apart b.phis
    (and_first (list_all phi_ok b.phis) (list_all (λ (c : Block). list_all phi_ok c.phis) bs) h)
phis_apart (b ∷ bs) (suc k) h =
    phis_apart bs k (and_second (list_all phi_ok b.phis) (list_all (λ (c : Block). list_all phi_ok c.phis) bs) h)

same_number : (a b : ℕ) → Some a ≡ Some b → a ≡ b
same_number a b e = cc

nine_is : (o : Option ℕ) (v : ℕ) → o ≡ Some v → 9 ≡ v → is_nine o ≡ true
nine_is o v is nine = ap is_nine is ∙ ((λ j. sym nine j == 9) ∙ itself 9)

is_some_nine : (o : Option ℕ) → is_nine o ≡ true → o ≡ Some 9
is_some_nine None is = absurd (cc)
is_some_nine (Some v) is = ap Some (equal_numbers v 9 is)

coroutine_begins : BeginsAlone a_coroutine
coroutine_begins = record {
  alone = λ block at v i name there gives.
      let nine = same_number 9 v name in
      or_other (not (is_nine (result_of i))) (is_call_of Intrinsic.CoroBegin i)
      (tested_at alone_ok a_coroutine block at i refl there) (ap not (nine_is (result_of i) v gives nine));
  phis = λ v name block.
      subst (λ (n : ℕ). Each (λ (x : Phi). x.result ≡ n → ⊥) (phis_at a_coroutine block)) (same_number 9 v name)
      (phis_apart a_coroutine.blocks block refl);
  named = λ block at v i there begins name.
      is_some_nine (result_of i)
      (or_other (not (is_call_of Intrinsic.CoroBegin i)) (is_nine (result_of i))
      (tested_at named_ok a_coroutine block at i refl there) (ap not begins))
      ∙ name;
}

begins : (func : ℕ) → BeginsAlone (function_in the_elision func)
begins zero = coroutine_begins
begins (suc zero) = record {
  alone = λ block at v i name there gives. absurd (cc);
  phis = λ v name block. absurd (cc);
  named = λ block at v i there begins name. absurd (cc);
}
begins (suc (suc n)) = record {
  alone = λ block at v i name there gives. absurd (cc);
  phis = λ v name block. absurd (cc);
  named = λ block at v i there begins name. absurd (cc);
}

-- ---- the module

pub worked_ends : KeepsHandlesAndEnds the_elision
worked_ends = record {
  handles = worked_handles;
  returns = returns;
  begins = begins;
  entries = entries;
  allocations = allocations;
  frees = frees;
  still = still;
}
  where
    returns : (func : ℕ) → HasShape the_elision func → ReturnsFrame (function_in the_elision func)
    returns zero k = worked_returns
    returns (suc n) k = absurd (no_shape_there n k)

    allocations : (func : ℕ) (k : HasShape the_elision func) → PassesAllocation the_elision func k
    allocations zero k = allocation_passed k
    allocations (suc n) k = absurd (no_shape_there n k)

    frees : (func block other : ℕ) → (the_elision.shape func).frees block ≡ Some other
        → PassesFree the_elision func block
    frees zero block other is = absurd (cc)
    frees (suc n) block other is =
        absurd (some_none ((the_elision.shape (suc n)).frees block) other is
        (ap (λ (x : Shape). x.frees block) (shape_none n)))

    still : (func : ℕ) → HasShape the_elision func → (b : ℕ)
        → IsOn Way.Destroyed (function_in the_elision func) b
        → IsFalse (has_at is_stop (function_in the_elision func) b)
    still zero k = worked_save.still
    still (suc n) k = absurd (no_shape_there n k)
