-- Both runs take an edge that leaves windows.
use Rattle.std.proofs.Common.{◌≡◌, ℕ, Bool, true, false, List, [], ◌∷◌, length, refl, sym, ap, ◌∙◌, subst, arith}
use Rattle.std.proofs.lemmas.List.{length-set}
use Rattle.std.specs.List.{list_all}
use Rattle.std.specs.Prelude.{Some, filter, slice_get, slice_set}
use Rattle.pass_elide_proof.proofs.EdgeMoved.{edge_moved}
use Rattle.pass_elide_proof.proofs.EdgeValues.{goes_too, operand_stands}
use Rattle.pass_elide_proof.proofs.EdgeEntered.{elided_windows, enters, framed_windows, function_same, same_operand}
use Rattle.pass_elide_proof.proofs.GivingNone.{front_same}
use Rattle.pass_elide_proof.proofs.EdgeBare.{bare_slots}
use Rattle.pass_elide_proof.proofs.LeftWindows.{as_many, back, exited, may_too, own_again, own_there, runs_again, set_instances, there_is}
use Rattle.pass_elide_proof.proofs.PhiValues.{each_as}
use Rattle.pass_elide_proof.proofs.FramesStay.{instances_change, was_same}
use Rattle.pass_elide_proof.specs.Edges.{GivesNone, IsAlike, IsPhiAlike, chosen_by, label_from, phis_at}
use Rattle.pass_elide_proof.specs.Elision.{Elision, differs_in, elided, elided_code, framed, function_in, function_in_elided, rooms}
use Rattle.pass_elide_proof.specs.EdgesLeaving.{IsAtExit, IsLeaving}
use Rattle.pass_elide_proof.specs.Match.{AreElided, AreInstances, is_given_mode, sides, was_given}
use Rattle.pass_proofs.proofs.ir_laws.facts.Lists.{get_within}
use Rattle.pass_proofs.proofs.ir_laws.facts.Truth.{both_true}
use Rattle.pass_proofs.specs.ir_model.Names.{position_of}
use Rattle.pass_proofs.specs.ir_model.Ty.{Ty}
use Rattle.pass_proofs.specs.ir_model.declared.instr.Phi.{Phi}
use Rattle.pass_proofs.specs.ir_model.declared.module.Function.{Function}
use Rattle.pass_proofs.specs.ir_model.declared.operand.Operand.{Operand}
use Rattle.pass_proofs.specs.ir_paths.Paths.{entry_point}
use Rattle.pass_proofs.specs.ir_paths.Windows.{leaves, windows_of}
use Rattle.pass_proofs.specs.run_framed.Framed.{framed_context, framed_step}
use Rattle.pass_proofs.specs.run_laws.memory.Pointers.{IsValue}
use Rattle.pass_proofs.specs.run_memory.declared.pointer.Value.{Value}
use Rattle.pass_proofs.specs.run_source.Source.{is_save, left_windows, may_leave}
use Rattle.pass_proofs.specs.run_source.State.{is_suspended, work_of}
use Rattle.pass_proofs.specs.run_source.declared.state.Instance.{Instance}
use Rattle.pass_proofs.specs.run_source.declared.state.State.{State}
use Rattle.pass_proofs.specs.run_source.declared.state.Status.{Status}
use Rattle.pass_proofs.specs.run_source_tables.Given.{facts_at}
use Rattle.pass_proofs.specs.run_step.Step.{GoTo, fetch, incoming_from, phi_values, term_action, with_all}
use Rattle.pass_proofs.specs.run_step.Values.{operand_value}
use Rattle.run_access_worked.proofs.Ended.{set_frames}
use Rattle.run_access_worked.specs.Frames.{AreSameFrames}

module _ (e : Elision) (s t : State) (r : AreElided e s t) (label : ℕ) (at : IsAtExit e s t label) where
  abbrev f : Function
  f = function_in e s.top.func

  abbrev to : ℕ
  to = position_of f label

  abbrev from : ℕ
  from = label_from f s.top.block

  abbrev phis : List Phi
  phis = phis_at f to

  abbrev n : ℕ
  n = at.exits.number

  abbrev x : Instance
  x = at.exits.instance

  ours : (s.top.instance ≡ Some n) × (slice_get s.instances n ≡ Some x)
  ours = own_there s n x at.exits.own

  -- ---- the second run's instance

  theirs : (y : Instance) × (slice_get t.instances n ≡ Some y)
  theirs =
      let within = get_within s.instances n x ours.1 in
      let count = r.count in
      there_is t.instances n (omega (arith, within, count))

  abbrev y : Instance
  y = theirs.0

  beside : AreInstances e r.homes t.world.memory x y
  beside = r.instances n x y ours.1 theirs.1

  sleeps : is_suspended x.status ≡ true
  sleeps =
      let first = both_true (may_leave (length s.below) x at.exits.window)
      (list_all (may_leave (length s.below) x) at.exits.windows) at.exits.may in
      (both_true (is_suspended x.status) (is_save (length s.below) at.exits.window.save x.last_save) first.0).0

  -- ---- the second run's step

  same_function : function_in_elided e t.top.func ≡ f
  same_function = ap (function_in_elided e) r.top.func ∙ function_same e s.top.func at.none

  place : t.top.at ≡ s.top.at
  place = at.stands ∙ front_same (rooms e s.top.func) f at.none s.top.block s.top.at

  chosen_stands : (ty : Ty)
      → IsValue r.homes (operand_value e.code s.top.values ty (chosen_by at.exits.term))
      (operand_value (elided_code e) t.top.values ty (chosen_by at.exits.term))
  chosen_stands ty =
      subst (λ (v : Value). IsValue r.homes (operand_value e.code s.top.values ty (chosen_by at.exits.term)) v)
      (sym (same_operand e t.top.values ty (chosen_by at.exits.term)))
      (operand_stands e s t r (chosen_by at.exits.term) at.chosen ty)

  goes_there : term_action (framed_context (elided e) t) (work_of t) at.exits.term ≡ GoTo label
  goes_there =
      goes_too r.homes (framed_context (framed e) s) (framed_context (elided e) t) (work_of s) (work_of t)
      at.exits.term label (λ k. same_operand e [] k.ty k.value) chosen_stands at.exits.goes

  same_windows : left_windows (elided e).given t label ≡ left_windows (framed e).given s label
  same_windows =
      let windows : (facts_at (elided e).given.facts t.top.func).windows
      ≡ (facts_at (framed e).given.facts s.top.func).windows
      = elided_windows e t.top.func ∙ (ap windows_of same_function ∙ sym (framed_windows e s.top.func)) in
      λ i. filter (leaves (record { block = at.beside i; at = place i }) (entry_point (same_function i) label))
      (windows i)

  exits_too : IsLeaving (elided e) t label
  exits_too = record {
    runs = r.outcome ∙ at.exits.runs;
    term = at.exits.term;
    there = (λ i. fetch (same_function i) (at.beside i) (place i)) ∙ at.exits.there;
    goes = goes_there;
    window = at.exits.window;
    windows = at.exits.windows;
    leaves = same_windows ∙ at.exits.leaves;
    number = n;
    instance = y;
    own = own_again t n y (r.top.instance ∙ ours.0) theirs.1;
    may = may_too e r.homes t.world.memory x y beside
        (subst (GivesNone e) (sym at.is_its) at.none) (length s.below) (length t.below)
        (as_many e r.homes r.hides (sides s t) s.below t.below r.below) (at.exits.window ∷ at.exits.windows)
        at.exits.may;
  }

  -- ---- both instances run again

  abbrev xs : List Instance
  xs = slice_set s.instances n (record x { status = Status.Running })

  abbrev ys : List Instance
  ys = slice_set t.instances n (record y { status = Status.Running })

  same_first : AreSameFrames s.instances xs
  same_first =
      set_frames s.instances n x (record x { status = Status.Running }) ours.1
      (record { coroutine = refl; block = refl; start = refl })

  same_second : AreSameFrames t.instances ys
  same_second =
      set_frames t.instances n y (record y { status = Status.Running }) theirs.1
      (record { coroutine = refl; block = refl; start = refl })

  again : AreElided e (record s { instances = xs }) (record t { instances = ys })
  again =
      instances_change e s t r xs ys same_first same_second
      (length-set t.instances n (record y { status = Status.Running })
      ∙ (r.count ∙ sym (length-set s.instances n (record x { status = Status.Running }))))
      (set_instances e r.homes t.world.memory s.instances t.instances r.instances n
      (record x { status = Status.Running }) (record y { status = Status.Running }) x y ours.1 theirs.1
      (runs_again e r.homes t.world.memory x y beside sleeps))

  -- ---- what is alike still is

  abbrev s' : State
  s' = record s { instances = xs }

  abbrev t' : State
  t' = record t { instances = ys }

  was : was_given (sides s' t') t.top ≡ was_given (sides s t) t.top
  was = was_same (sides s t) xs ys same_first same_second t.top

  alike : (o : Operand) → IsAlike e s t o → IsAlike e s' t' o
  alike o h v is =
      ap (λ (b : Bool). differs_in (e.shape s.top.func) (is_given_mode t.top.mode) b v) was ∙ h v is

  phi_alike : (p : Phi) → IsPhiAlike e s t from p → IsPhiAlike e s' t' from p
  phi_alike p h = record {
    known = h.known;
    answers = h.answers;
    takes = λ same. alike (incoming_from p.incoming from)
        (h.takes (ap (λ (b : Bool). differs_in (e.shape s.top.func) (is_given_mode t.top.mode) b p.result) (sym was)
        ∙ same));
  }

  first : framed_step (framed e) s ≡ record s' {
    top = record s.top {
      block = to;
      at = 0;
      values = with_all s.top.values (phi_values e.code s.top.values from phis);
      has_left = false;
    };
  }
  first = exited (framed e) s label at.exits

  second : framed_step (elided e) t ≡ record t' {
    top = record t.top {
      block = to;
      at = 0;
      values = with_all t.top.values (phi_values e.code t.top.values from phis);
      has_left = false;
    };
  }
  unfolding exits_too
  second =
      exited (elided e) t label exits_too
      ∙ (enters e (back t n y) label s.top.func r.top.func
      ∙ (λ i. record t' {
        top = record t.top {
          block = to;
          at = 0;
          values = with_all t.top.values (phi_values e.code t.top.values (label_from f (at.beside i)) phis);
          has_left = false;
        };
      }))

  pub leaves_beside : AreElided e (framed_step (framed e) s) (framed_step (elided e) t)
  leaves_beside =
      subst (λ (p : State × State). AreElided e p.0 p.1) (λ i. (sym first i, sym second i))
      (edge_moved e s' t' again to false false refl (bare_slots e s t r at.none)
      (each_as (IsPhiAlike e s t from) (IsPhiAlike e s' t' from) phi_alike phis at.phis) at.held)
