-- What leads to the block beside the allocator's: the branch on what coro.alloc gave.
use Rattle.std.proofs.Common.{◌≡◌, ◌⊎◌, inl, inr, ◌∙◌, ℕ, Bool, true, false, List, length, None, Option, Some, ap, refl, sym}
use Rattle.std.specs.Prelude.{option_and_then, slice_get}
use Rattle.pass_elide_meaning.specs.pass_elide_edges.Keeping.{HasEdge, KeepsEnds, SetsKnown}
use Rattle.pass_elide_lacks.specs.Keeps.{KeepsAsked}
use Rattle.pass_elide_meaning.proofs.pass_elide_runs.Elided.{coroutine_same}
use Rattle.pass_elide_meaning.proofs.pass_elide_runs.Paths.{name_listed}
use Rattle.pass_elide_meaning.specs.pass_elide_runs.Names.{AsksAlloc, IsCallBy, IsGivenBy}
use Rattle.pass_elide_meaning.proofs.pass_elide_edges.pass_elide_proof.EdgeEntered.{end_at}
use Rattle.pass_elide_meaning.proofs.pass_elide_edges.pass_elide_proof.Facts.{not_both, some_none}
use Rattle.pass_elide_meaning.proofs.pass_elide_edges.pass_elide_proof.GoesOn.{instr_there}
use Rattle.pass_elide_meaning.proofs.pass_elide_edges.pass_elide_proof.PhiValues.{each_as}
use Rattle.pass_elide_meaning.proofs.pass_elide_edges.pass_elide_proof.pass_proofs.pass_kept_proof.Rules.{where_is}
use Rattle.pass_elide_meaning.specs.pass_elide_edges.pass_elide_proof.Edges.{phis_at}
use Rattle.pass_elide_meaning.specs.pass_elide_edges.pass_elide_proof.Elision.{Elision, Shape, elided_code, function_in, no_shape}
use Rattle.pass_elide_meaning.specs.pass_elide_edges.pass_elide_proof.Places.{instrs_of}
use Rattle.pass_elide_meaning.specs.pass_elide_edges.pass_elide_proof.Placing.{HasShape, KeepsPlaces}
use Rattle.pass_elide_meaning.specs.pass_elide_edges.pass_elide_proof.Shapes.{AsksForFrame}
use Rattle.pass_elide_meaning.specs.pass_elide_edges.pass_elide_proof.pass_proofs.ir_model.Names.{function_at, position_of, same_intrinsic}
use Rattle.pass_elide_meaning.specs.pass_elide_edges.pass_elide_proof.pass_proofs.ir_model.declared.instr.Case.{Case}
use Rattle.pass_elide_meaning.specs.pass_elide_edges.pass_elide_proof.pass_proofs.ir_model.declared.instr.Instr.{Instr}
use Rattle.pass_elide_meaning.specs.pass_elide_edges.pass_elide_proof.pass_proofs.ir_model.declared.instr.Phi.{Phi}
use Rattle.pass_elide_meaning.specs.pass_elide_edges.pass_elide_proof.pass_proofs.ir_model.declared.instr.Terminator.{Terminator}
use Rattle.pass_elide_meaning.specs.pass_elide_edges.pass_elide_proof.pass_proofs.ir_model.declared.module.Function.{Function}
use Rattle.pass_elide_meaning.specs.pass_elide_edges.pass_elide_proof.pass_proofs.ir_model.declared.operand.Arg.{Arg}
use Rattle.pass_elide_meaning.specs.pass_elide_edges.pass_elide_proof.pass_proofs.ir_model.declared.operand.Callee.{Callee}
use Rattle.pass_elide_meaning.specs.pass_elide_edges.pass_elide_proof.pass_proofs.ir_model.declared.operand.Intrinsic.{Intrinsic}
use Rattle.pass_elide_meaning.specs.pass_elide_edges.pass_elide_proof.pass_proofs.ir_model.declared.operand.Operand.{Operand}
use Rattle.pass_elide_meaning.specs.pass_elide_edges.pass_elide_proof.pass_proofs.ir_parts.Contents.{result_of}
use Rattle.pass_elide_meaning.specs.pass_elide_edges.pass_elide_proof.pass_proofs.ir_paths.Paths.{targets}
use Rattle.pass_elide_meaning.specs.pass_elide_edges.pass_elide_proof.pass_proofs.ir_paths.Windows.{call_result, instr_at, is_call_of, points_where}
use Rattle.pass_elide_meaning.specs.pass_elide_edges.pass_elide_proof.pass_proofs.ir_paths.declared.point.Point.{Point}
use Rattle.pass_elide_meaning.specs.pass_elide_edges.pass_elide_proof.pass_proofs.pass_kept_proof.Needed.{BranchesTo}
use Rattle.pass_elide_meaning.specs.pass_elide_edges.pass_elide_proof.pass_proofs.run_framed.Framed.{begin_name}
use Rattle.pass_elide_meaning.specs.pass_elide_edges.pass_elide_proof.pass_proofs.run_step.Step.{AtTerm, fetch}
use Rattle.run_slots.proofs.run_hooks.pass_renewed_proof.Left.{instr_there as point_there}

-- ---- calls

alloc_call : (i : Instr) → is_call_of Intrinsic.CoroAlloc i ≡ true → IsCallBy AsksAlloc i
alloc_call (Instr.Call result must_tail ty (Callee.Intrinsic j) args) h = record {
  intrinsic = j;
  result = result;
  must_tail = must_tail;
  ty = ty;
  args = args;
  is = refl;
  called = by j h;
}
  where
    by : (j : Intrinsic) → same_intrinsic Intrinsic.CoroAlloc j ≡ true → AsksAlloc j
    by Intrinsic.CoroAlloc is = tt
    by _ is = absurd (cc)
alloc_call _ h = absurd (cc)

begin_no_alloc : (i : Instr) → is_call_of Intrinsic.CoroBegin i ≡ true → is_call_of Intrinsic.CoroAlloc i ≡ false
begin_no_alloc (Instr.Call result must_tail ty (Callee.Intrinsic j) args) h = by j h
  where
    by : (j : Intrinsic) → same_intrinsic Intrinsic.CoroBegin j ≡ true → same_intrinsic Intrinsic.CoroAlloc j ≡ false
    by Intrinsic.CoroBegin is = refl
    by _ is = absurd (cc)
begin_no_alloc _ h = absurd (cc)

begin_result : (i : Instr) → is_call_of Intrinsic.CoroBegin i ≡ true → result_of i ≡ call_result i
begin_result (Instr.Call result must_tail ty (Callee.Intrinsic j) args) h = refl
begin_result _ h = absurd (cc)

-- begin's name is given by a begin
record IsBeginsName (f : Function) (v : ℕ) : Type 0 where
  block : ℕ
  at : ℕ
  instr : Instr
  there : slice_get (instrs_of f block) at ≡ Some instr
  begins : is_call_of Intrinsic.CoroBegin instr ≡ true
  gives : result_of instr ≡ Some v

begins_name : (f : Function) (v : ℕ) → begin_name f ≡ Some v → IsBeginsName f v
begins_name f v h = on (slice_get (points_where (is_call_of Intrinsic.CoroBegin) f) 0) refl h
  where
    on : (o : Option Point) → slice_get (points_where (is_call_of Intrinsic.CoroBegin) f) 0 ≡ o
        → option_and_then call_result (option_and_then (instr_at f) o) ≡ Some v → IsBeginsName f v
    on None eo j = absurd (cc)
    on (Some p) eo j =
        let r = where_is (is_call_of Intrinsic.CoroBegin) f p eo in
        record {
          block = p.block;
          at = p.at;
          instr = r.0;
          there = instr_there f p.block p.at r.0 r.1;
          begins = r.2;
          gives = begin_result r.0 r.2
              ∙ (ap (option_and_then call_result) (sym (point_there f p r.0 r.1)) ∙ j);
        }

module _ (e : Elision) (keeps : KeepsPlaces e) (asked : KeepsAsked e) (func : ℕ)
    (k : AsksForFrame (function_in e func) (e.shape func)) where
  abbrev f : Function
  f = function_in e func

  abbrev x : Shape
  x = e.shape func

  -- ---- the function

  pub has_shape : HasShape e func
  has_shape = by (keeps.shapes func)
    where
      by : (e.shape func ≡ no_shape) ⊎ HasShape e func → HasShape e func
      by (inl none) =
          absurd (some_none (x.aside k.after) k.beside k.aside (ap (λ (z : Shape). z.aside k.after) none))
      by (inr h) = h

  -- it is the same in both modules
  pub same_code : function_at (elided_code e) func ≡ f
  same_code = coroutine_same e keeps func has_shape.coroutine

  -- ---- edges

  asks_edge : HasEdge f k.asks k.other
  asks_edge = record {
    term = Terminator.Branch (Operand.Local k.need) k.one k.other;
    stands = k.branch;
    leads = inr (inl refl);
  }

  -- the block beside isn't the entry block
  pub not_entry : 0 ≡ k.beside → ⊥
  not_entry is = (asked.alone func).entry k.asks k.other asks_edge (k.to_beside ∙ sym is)

  -- what ends a block leads to the label
  ended : (block at label : ℕ) (term : Terminator) → fetch f block at ≡ AtTerm term
      → fetch f block (length (instrs_of f block)) ≡ AtTerm term
  ended block at label term there = (λ j. fetch f block (sym (end_at f block at term there) j)) ∙ there

  -- the block beside is entered from the block that asks alone, which ends in its branch
  pub ends_asking : (block at label : ℕ) (term : Terminator) → fetch f block at ≡ AtTerm term
      → BranchesTo label (AtTerm term) → position_of f label ≡ k.beside
      → term ≡ Terminator.Branch (Operand.Local k.need) k.one k.other
  ends_asking block at label term there to is =
      same term (Terminator.Branch (Operand.Local k.need) k.one k.other)
      (sym stands ∙ ((λ j. fetch f (here j) (length (instrs_of f (here j)))) ∙ k.branch))
    where
      stands : fetch f block (length (instrs_of f block)) ≡ AtTerm term
      stands = ended block at label term there

      here : block ≡ k.asks
      here =
          (asked.alone func).into_beside k block label
          (record { term = term; stands = stands; leads = name_listed label (targets term) to }) is

      same : (s t : Terminator) → AtTerm s ≡ AtTerm t → s ≡ t
      same s t h = cc

  -- so no switch leads there
  pub no_switch : (block at label default : ℕ) (arg : Arg) (cases : List Case)
      → fetch f block at ≡ AtTerm (Terminator.Switch arg default cases)
      → BranchesTo label (AtTerm (Terminator.Switch arg default cases)) → position_of f label ≡ k.beside → ⊥
  no_switch block at label default arg cases there to is =
      apart (ends_asking block at label (Terminator.Switch arg default cases) there to is)
    where
      apart : Terminator.Switch arg default cases ≡ Terminator.Branch (Operand.Local k.need) k.one k.other → ⊥
      apart h = cc

  -- ---- the name at which it is asked

  module _ (ends : KeepsEnds e) where
    given_at : (block at : ℕ) (i : Instr) → slice_get (instrs_of f block) at ≡ Some i → result_of i ≡ Some k.need
        → IsCallBy AsksAlloc i
    given_at block at i there gives = by (is_call_of Intrinsic.CoroAlloc i) refl
      where
        by : (t : Bool) → is_call_of Intrinsic.CoroAlloc i ≡ t → IsCallBy AsksAlloc i
        by true is = alloc_call i is
        by false is =
            absurd (not_both (x.need k.need) k.is_need
            (((keeps.instrs func).sets block at k.need i there gives).need is))

    by_phi : (p : Phi) → SetsKnown f x p → p.result ≡ k.need → ⊥
    by_phi p known is =
        not_both (x.need k.need) k.is_need (ap x.need (sym is) ∙ known.answers.need)

    by_begin : begin_name f ≡ Some k.need → ⊥
    by_begin is =
        let b = begins_name f k.need is in
        not_both (x.need k.need) k.is_need
        (((keeps.instrs func).sets b.block b.at k.need b.instr b.there b.gives).need
        (begin_no_alloc b.instr b.begins))

    pub asks_alone : IsGivenBy AsksAlloc f k.need
    asks_alone = record {
      instrs = given_at;
      phis = λ block. each_as (SetsKnown f x) (λ (p : Phi). p.result ≡ k.need → ⊥) by_phi (phis_at f block)
          (ends.phis func block);
      params = asked.params func k;
      begins = by_begin;
    }
