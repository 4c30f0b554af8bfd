-- A coroutine that frees its frame so does it by the shape that tells of it, in no other way.
use Rattle.std.proofs.Common.{◌≡◌, ◌≢◌, inl, inr, ℕ, Bool, true, false, List, length, refl, sym, ap, ◌∙◌}
use Rattle.std.proofs.lemmas.Bool.{false≢true}
use Rattle.std.specs.List.{list_any}
use Rattle.std.specs.Prelude.{Some, not, slice_get, if◌then◌else◌, ◌&&◌, ◌||◌, ◌==◌}
use Rattle.pass_elide_edges.specs.Keeping.{HasEdge}
use Rattle.pass_elide_edges.proofs.pass_elide_proof.OwnPlaces.{instr_there}
use Rattle.pass_elide_edges.specs.pass_elide_proof.EdgesFreeing.{FreesAside, FreesFrame}
use Rattle.pass_elide_edges.specs.pass_elide_proof.Elision.{Shape}
use Rattle.pass_elide_edges.specs.pass_elide_proof.Places.{instrs_of}
use Rattle.pass_elide_edges.specs.pass_elide_proof.Releasing.{FreesAtOnce}
use Rattle.pass_elide_edges.specs.pass_elide_proof.Shapes.{JumpsTo}
use Rattle.pass_elide_ready.proofs.Asked.{jumps_alike, or_here, or_there}
use Rattle.pass_elide_ready.proofs.Listed.{IsFound, beside_is, found, passed_there, tested_is, tests_are, told}
use Rattle.pass_elide_ready.proofs.Names.{at_point, same_one}
use Rattle.pass_elide_ready.proofs.Numbers.{any_at, given_there, names_it}
use Rattle.pass_elide_ready.specs.Form.{Asking, Freeing, FreesSo, FreesSoon, HasForm, MeetsSo, beside_of, frees_name, gives_freed, gives_in, has_both, is_name, shape_by}
use Rattle.pass_elide_edges.proofs.pass_elide_proof.pass_proofs.ir_laws.facts.Truth.{and_first, equal_numbers, itself}
use Rattle.pass_elide_edges.proofs.pass_elide_proof.pass_proofs.ir_laws.facts.local_rules.Woven.{other_number}
use Rattle.pass_elide_edges.proofs.pass_elide_proof.pass_proofs.ir_laws.paths.renamed.Uses.{stands_in}
use Rattle.pass_elide_edges.proofs.pass_elide_proof.pass_proofs.rule_laws.rules.sources.Places.{point}
use Rattle.pass_elide_edges.specs.pass_elide_proof.pass_proofs.flow_solver.Paths.{IsListed}
use Rattle.pass_elide_edges.specs.pass_elide_proof.pass_proofs.ir_base.declared.ops.Pred.{Pred}
use Rattle.pass_elide_edges.specs.pass_elide_proof.pass_proofs.ir_model.Names.{position_of}
use Rattle.pass_elide_edges.specs.pass_elide_proof.pass_proofs.ir_model.Ty.{ptr}
use Rattle.pass_elide_edges.specs.pass_elide_proof.pass_proofs.ir_model.declared.instr.Instr.{Instr}
use Rattle.pass_elide_edges.specs.pass_elide_proof.pass_proofs.ir_model.declared.instr.Terminator.{Terminator}
use Rattle.pass_elide_edges.specs.pass_elide_proof.pass_proofs.ir_model.declared.module.Block.{Block}
use Rattle.pass_elide_edges.specs.pass_elide_proof.pass_proofs.ir_model.declared.module.Function.{Function}
use Rattle.pass_elide_edges.specs.pass_elide_proof.pass_proofs.ir_model.declared.module.Module.{Module}
use Rattle.pass_elide_edges.specs.pass_elide_proof.pass_proofs.ir_model.declared.operand.Callee.{Callee}
use Rattle.pass_elide_edges.specs.pass_elide_proof.pass_proofs.ir_model.declared.operand.Intrinsic.{Intrinsic}
use Rattle.pass_elide_edges.specs.pass_elide_proof.pass_proofs.ir_model.declared.operand.Operand.{Operand}
use Rattle.pass_elide_edges.specs.pass_elide_proof.pass_proofs.ir_parts.Contents.{result_of}
use Rattle.pass_elide_edges.specs.pass_elide_proof.pass_proofs.ir_paths.Windows.{is_call_of}
use Rattle.pass_elide_edges.specs.pass_elide_proof.pass_proofs.rule_laws.rules.function_rules.Kept.{KeepsFunctionRules}
use Rattle.pass_elide_edges.specs.pass_elide_proof.pass_proofs.run_step.Step.{AtTerm, fetch}

-- ---- what coro.free gives

pub freed_there : (f : Function) (block at v : ℕ) (i : Instr) → slice_get (instrs_of f block) at ≡ Some i
    → is_call_of Intrinsic.CoroFree i ≡ true → result_of i ≡ Some v → frees_name f v ≡ true
freed_there f block at v i there is one =
    let x = stands_in f (point block at) i (at_point f block at i there) in
    any_at (λ (b : Block). list_any (gives_freed v) b.instrs) f.blocks block x.block x.got
    (any_at (gives_freed v) x.block.instrs at i x.stands
    (ap (λ (t : Bool). t && is_name v (result_of i)) is ∙ names_it v (result_of i) one))

pub frees_at_once : (f : Function) (a : Asking) (qs : List Freeing) (x : Shape) → x ≡ shape_by f a qs → FreesSoon f
    → FreesAtOnce f x
frees_at_once f a qs x p soon block at result must_tail ty args here =
    let y = soon block at result must_tail ty args here in
    record {
      name = y.0;
      given = y.1;
      freed = ap (λ (z : Shape). z.freed y.0) p ∙ freed_there f block at y.0 (Instr.Call result must_tail ty
          (Callee.Intrinsic Intrinsic.CoroFree) args)
          (instr_there f block at
          (Instr.Call result must_tail ty (Callee.Intrinsic Intrinsic.CoroFree) args) here) refl y.1;
      soon = y.2;
    }

-- ---- edges of branches and jumps

pub jump_edge : (f : Function) (block t : ℕ) (j : JumpsTo f block t) → HasEdge f block j.label
jump_edge f block t j = record { term = Terminator.Jump j.label; stands = j.stands; leads = inl refl }

pub first_edge : (f : Function) (block one other : ℕ) (x : Operand)
    → fetch f block (length (instrs_of f block)) ≡ AtTerm (Terminator.Branch x one other) → HasEdge f block one
first_edge f block one other x here =
    record { term = Terminator.Branch x one other; stands = here; leads = inl refl }

pub second_edge : (f : Function) (block one other : ℕ) (x : Operand)
    → fetch f block (length (instrs_of f block)) ≡ AtTerm (Terminator.Branch x one other) → HasEdge f block other
second_edge f block one other x here =
    record { term = Terminator.Branch x one other; stands = here; leads = inr (inl refl) }

-- the way that is chosen
pub chosen_edge : (f : Function) (block one other : ℕ) (x : Operand) (b : Bool)
    → fetch f block (length (instrs_of f block)) ≡ AtTerm (Terminator.Branch x one other)
    → HasEdge f block (if b then other else one)
chosen_edge f block one other x true here = second_edge f block one other x here
chosen_edge f block one other x false here = first_edge f block one other x here

pub other_edge : (f : Function) (block one other : ℕ) (x : Operand) (b : Bool)
    → fetch f block (length (instrs_of f block)) ≡ AtTerm (Terminator.Branch x one other)
    → HasEdge f block (if b then one else other)
other_edge f block one other x true here = first_edge f block one other x here
other_edge f block one other x false here = second_edge f block one other x here

-- a block that frees is one of those that are listed
pub record IsThere (f : Function) (x : Shape) (qs : List Freeing) (q : FreesFrame f x) : Type 0 where
  pub element : Freeing
  pub listed : IsListed element qs
  pub tests_is : element.tests ≡ q.tests
  pub frees_is : element.frees ≡ q.frees
  pub after_is : element.after ≡ q.after
  pub beside_is : element.beside ≡ q.beside

-- ---- by names

module _ (m : Module) (k : ℕ) (f : Function) (rules : KeepsFunctionRules m k f) (a : Asking) (qs : List Freeing)
    (form : HasForm f a qs) (x : Shape) (p : x ≡ shape_by f a qs) where
  tells : (b c : Bool) → (if b then Pred.Eq else Pred.Ne) ≡ (if c then Pred.Eq else Pred.Ne) → b ≡ c
  tells true true e = refl
  tells true false e = absurd (cc)
  tells false true e = absurd (cc)
  tells false false e = refl

  -- tests of one name are one
  pub one_test : (q p : Freeing) → FreesSo f q → FreesSo f p → p.tested ≡ q.tested → p.is_eq ≡ q.is_eq
  one_test q p s t e =
      let i : Instr = Instr.Icmp q.tested (if q.is_eq then Pred.Eq else Pred.Ne) ptr s.left s.right in
      let j : Instr = Instr.Icmp p.tested (if p.is_eq then Pred.Eq else Pred.Ne) ptr t.left t.right in
      let same : j ≡ i = same_one m k f rules p.tests t.test q.tests s.test q.tested j i t.is_test s.is_test
      (ap Some e) refl in
      let preds : (if p.is_eq then Pred.Eq else Pred.Ne) ≡ (if q.is_eq then Pred.Eq else Pred.Ne) = cc in
      tells p.is_eq q.is_eq preds

  pub not_asked : (q : Freeing) → FreesSo f q → q.tested ≢ a.need
  not_asked q s e =
      let i : Instr = Instr.Icmp q.tested (if q.is_eq then Pred.Eq else Pred.Ne) ptr s.left s.right in
      let same : i ≡ form.asking.asked = same_one m k f rules q.tests s.test a.asks form.asking.question a.need i
      form.asking.asked s.is_test form.asking.is_asked (ap Some e) form.asking.answers in
      false≢true (ap (is_call_of Intrinsic.CoroAlloc) same ∙ form.asking.is_question)

  -- two that are entered alike are tested alike
  pub one_place : (q p : Freeing) → FreesSo f q → FreesSo f p → p.frees ≡ q.frees → p.tests ≡ q.tests
  one_place q p s t e = s.into_frees p.tests (if p.is_eq then p.other else p.one)
      (chosen_edge f p.tests p.one p.other (Operand.Local p.tested) p.is_eq t.branch) (t.to_free ∙ e)

  branches_alike : (q p : Freeing) → FreesSo f q → FreesSo f p → p.tests ≡ q.tests
      → AtTerm (Terminator.Branch (Operand.Local p.tested) p.one p.other)
      ≡ AtTerm (Terminator.Branch (Operand.Local q.tested) q.one q.other)
  branches_alike q p s t e =
      sym t.branch ∙ ap (λ (b : ℕ). fetch f b (length (instrs_of f b))) e ∙ s.branch

  pub one_name : (q p : Freeing) → FreesSo f q → FreesSo f p → p.tests ≡ q.tests → p.tested ≡ q.tested
  one_name q p s t e = let both = branches_alike q p s t e in cc

  pub one_beside : (q p : Freeing) → FreesSo f q → FreesSo f p → p.tests ≡ q.tests → p.beside ≡ q.beside
  one_beside q p s t e =
      let both = branches_alike q p s t e in
      let one : p.one ≡ q.one = cc in
      let other : p.other ≡ q.other = cc in
      let test = one_test q p s t (one_name q p s t e) in
      sym t.to_beside
      ∙ ap (λ (b : Bool). position_of f (if b then p.one else p.other)) test
      ∙ (λ z. position_of f (if q.is_eq then one z else other z))
      ∙ s.to_beside

  -- the allocator's block frees nothing
  pub allocates_apart : (q : Freeing) → FreesSo f q → q.frees ≢ a.allocates
  allocates_apart q s e =
      let places : a.asks ≡ q.tests = s.into_frees a.asks a.one
      (first_edge f a.asks a.one a.other (Operand.Local a.need) form.asking.branch) (form.asking.to_allocator ∙ sym e)
      in
      let both : AtTerm (Terminator.Branch (Operand.Local q.tested) q.one q.other)
      ≡ AtTerm (Terminator.Branch (Operand.Local a.need) a.one a.other) =
      sym s.branch ∙ ap (λ (b : ℕ). fetch f b (length (instrs_of f b))) (sym places) ∙ form.asking.branch in
      let same : q.tested ≡ a.need = cc in
      not_asked q s same

  -- nor are blocks on edges behind both one
  pub after_apart : (q : Freeing) → FreesSo f q → q.after ≢ a.after
  after_apart q s e = allocates_apart q s
      (form.asking.into_after q.frees s.jumps.label (jump_edge f q.frees q.after s.jumps) (s.jumps.leads ∙ e))

  -- ---- the tables

  pub frees_told : (q : Freeing) → IsListed q qs → x.frees q.frees ≡ Some q.tests
  frees_told q l = ap (λ (z : Shape). z.frees q.frees) p ∙ tests_are qs q.frees
      ∙ told (λ p. p.frees == q.frees) (λ p. p.tests) qs q.tests q l (itself q.frees)
      (λ p n h. one_place q p (form.freeing q l) (form.freeing p n) (equal_numbers p.frees q.frees h))

  pub tested_told : (q : Freeing) → IsListed q qs → x.tested q.tested ≡ Some q.is_eq
  tested_told q l = ap (λ (z : Shape). z.tested q.tested) p ∙ tested_is qs q.tested
      ∙ told (λ p. p.tested == q.tested) (λ p. p.is_eq) qs q.is_eq q l (itself q.tested)
      (λ p n h. one_test q p (form.freeing q l) (form.freeing p n) (equal_numbers p.tested q.tested h))

  both_ways : (q : Freeing) → q.beside ≢ q.after → has_both q ≡ true
  both_ways q ne = ap not (other_number q.after q.beside (λ e. ne (sym e)))

  -- of two blocks with one behind them that is entered from one of them
  one_freed : (q p : Freeing) → FreesSo f q → MeetsSo f q → FreesSo f p → p.after ≡ q.after → p.frees ≡ q.frees
  one_freed q p s w t e = w.into_freed p.frees t.jumps.label (jump_edge f p.frees p.after t.jumps)
      (t.jumps.leads ∙ e)

  beside_told : (q : Freeing) → IsListed q qs → MeetsSo f q → beside_of qs q.after ≡ Some q.beside
  beside_told q l w =
      let s = form.freeing q l in
      beside_is qs q.after
      ∙ told (λ p. (p.after == q.after) && has_both p) (λ p. p.beside) qs q.beside q l
      (ap (λ (b : Bool). b && has_both q) (itself q.after) ∙ both_ways q w.apart)
      (λ p n h.
      let t = form.freeing p n in
      let after = equal_numbers p.after q.after (and_first (p.after == q.after) (has_both p) h) in
      one_beside q p s t (one_place q p s t (one_freed q p s w t after)))

  aside_told : (q : Freeing) → IsListed q qs → MeetsSo f q → x.aside q.after ≡ Some q.beside
  aside_told q l w =
      ap (λ (z : Shape). z.aside q.after) p
      ∙ ap (λ (b : Bool). if b then Some a.beside else beside_of qs q.after)
      (other_number q.after a.after (after_apart q (form.freeing q l)))
      ∙ beside_told q l w

  -- ---- it frees

  pub passed_in : (q : Freeing) → IsListed q qs → (at v : ℕ) (i : Instr) → slice_get (instrs_of f q.frees) at ≡ Some i
      → result_of i ≡ Some v → x.passed v ≡ true
  passed_in q l at v i there one = ap (λ (z : Shape). z.passed v) p ∙ passed_there f qs v q l
      (or_here (gives_in f q.frees v) _ (given_there f q.frees at v i there one))

  abbrev pub frees_frame : (q : Freeing) → IsListed q qs → FreesFrame f x
  frees_frame q l =
      let s = form.freeing q l in
      record {
        tests = q.tests;
        frees = q.frees;
        after = q.after;
        beside = q.beside;
        tested = q.tested;
        is_eq = q.is_eq;
        one = q.one;
        other = q.other;
        branch = s.branch;
        to_free = s.to_free;
        to_beside = s.to_beside;
        jumps = s.jumps;
        waits = frees_told q l;
        freed = q.freed;
        release = q.release;
        deallocator = s.deallocator;
        there = s.there;
        is_deallocator = s.is_deallocator;
        once = s.once;
        takes = s.takes;
        is_freed = ap (λ (z : Shape). z.freed q.freed) p ∙ freed_there f q.tests s.free q.freed s.freeing s.is_free
            s.is_freeing s.gives;
        is_tested = tested_told q l;
        not_need = ap (λ (z : Shape). z.need q.tested) p ∙ other_number q.tested a.need (not_asked q s);
        is_passed = λ at v i there one. passed_in q l at v i there one;
      }

  passed_behind : (q : Freeing) → IsListed q qs → MeetsSo f q → (v : ℕ)
      → (gives_in f q.after v || gives_in f q.beside v)
      ≡ true → x.passed v ≡ true
  passed_behind q l w v h = ap (λ (z : Shape). z.passed v) p ∙ passed_there f qs v q l (or_there
      (gives_in f q.frees v) _
      (ap (λ (b : Bool). b && (gives_in f q.after v || gives_in f q.beside v)) (both_ways q w.apart) ∙ h))

  pub passed_after : (q : Freeing) → IsListed q qs → MeetsSo f q → (at v : ℕ) (i : Instr)
      → slice_get (instrs_of f q.after) at ≡ Some i → result_of i ≡ Some v → x.passed v ≡ true
  passed_after q l w at v i there one = passed_behind q l w v
      (or_here (gives_in f q.after v) _ (given_there f q.after at v i there one))

  pub passed_beside : (q : Freeing) → IsListed q qs → MeetsSo f q → (at v : ℕ) (i : Instr)
      → slice_get (instrs_of f q.beside) at ≡ Some i → result_of i ≡ Some v → x.passed v ≡ true
  passed_beside q l w at v i there one = passed_behind q l w v
      (or_there (gives_in f q.after v) _ (given_there f q.beside at v i there one))

  pub frees_aside : (q : Freeing) → IsListed q qs → MeetsSo f q → FreesAside f x q.after q.beside
  frees_aside q l w = record {
    ends = w.ends;
    aside = aside_told q l w;
    joins = w.joins;
    meets = w.meets;
    loads = w.loads;
    many = w.many;
    is_loaded = λ at v i there one. passed_after q l w at v i there one;
    is_loaded_beside = λ at v i there one. passed_beside q l w at v i there one;
  }

  -- ---- no other block frees

  pub frees_there : (q : FreesFrame f x) → IsThere f x qs q
  frees_there q =
      let y : IsFound (λ (d : Freeing). d.frees == q.frees) (λ (d : Freeing). d.tests) qs q.tests =
      found (λ (d : Freeing). d.frees == q.frees) (λ (d : Freeing). d.tests) qs q.tests (sym
      (tests_are qs q.frees) ∙ sym (ap (λ (z : Shape). z.frees q.frees) p) ∙ q.waits) in
      let r : Freeing = y.element in
      let s = form.freeing r y.listed in
      let frees : r.frees ≡ q.frees = equal_numbers r.frees q.frees y.passes in
      let both : AtTerm (Terminator.Branch (Operand.Local r.tested) r.one r.other)
      ≡ AtTerm (Terminator.Branch (Operand.Local q.tested) q.one q.other) =
      sym s.branch ∙ ap (λ (b : ℕ). fetch f b (length (instrs_of f b))) y.value_is ∙ q.branch in
      let name : r.tested ≡ q.tested = cc in
      let one : r.one ≡ q.one = cc in
      let other : r.other ≡ q.other = cc in
      let z : IsFound (λ (d : Freeing). d.tested == q.tested) (λ (d : Freeing). d.is_eq) qs q.is_eq =
      found (λ (d : Freeing). d.tested == q.tested) (λ (d : Freeing). d.is_eq) qs q.is_eq (sym
      (tested_is qs q.tested) ∙ sym (ap (λ (z : Shape). z.tested q.tested) p)
      ∙ q.is_tested) in
      let test : r.is_eq ≡ q.is_eq =
      sym (one_test r z.element s (form.freeing z.element z.listed)
      (equal_numbers z.element.tested q.tested z.passes ∙ sym name)) ∙ z.value_is in
      record {
        element = r;
        listed = y.listed;
        tests_is = y.value_is;
        frees_is = frees;
        after_is = jumps_alike f a qs form.asking x p r.frees q.frees r.after q.after frees s.jumps q.jumps;
        beside_is = sym s.to_beside
            ∙ ap (λ (b : Bool). position_of f (if b then r.one else r.other)) test
            ∙ (λ w. position_of f (if q.is_eq then one w else other w))
            ∙ q.to_beside;
      }
