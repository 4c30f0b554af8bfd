-- Both runs take an edge to the front of the same block.
use Rattle.std.proofs.Common.{◌≡◌, inl, inr, ℕ, List, [], sym, ap, ◌∙◌, subst}
use Rattle.std.specs.Prelude.{filter}
use Rattle.pass_elide_proof.proofs.EdgeMoved.{edge_moved}
use Rattle.pass_elide_proof.proofs.EdgeValues.{goes_too, operand_stands}
use Rattle.pass_elide_proof.proofs.EdgeEntered.{code_of, elided_windows, entered, enters, framed_windows, function_same, same_operand, term_end}
use Rattle.pass_elide_proof.proofs.GivingNone.{own_same}
use Rattle.pass_elide_proof.proofs.Modules.{finds_alike}
use Rattle.pass_elide_proof.proofs.NoSaves.{elided_without}
use Rattle.pass_elide_proof.specs.Edges.{IsAtEdge, IsEntering, KeepsWindows, at_itself, chosen_by, label_from, phis_at}
use Rattle.pass_elide_proof.specs.Elision.{Elision, elided, elided_code, framed, function_in, function_in_elided, rooms}
use Rattle.pass_elide_proof.specs.Match.{AreElided}
use Rattle.pass_elide_proof.specs.Places.{own_at}
use Rattle.pass_proofs.specs.ir_model.Names.{position_of}
use Rattle.pass_proofs.specs.ir_model.Ty.{Ty}
use Rattle.pass_proofs.specs.ir_model.declared.instr.Phi.{Phi}
use Rattle.pass_proofs.specs.ir_model.declared.module.Function.{Function}
use Rattle.pass_proofs.specs.ir_paths.Paths.{entry_point}
use Rattle.pass_proofs.specs.ir_paths.Windows.{leaves, windows_of}
use Rattle.pass_proofs.specs.run_framed.Framed.{framed_context, framed_step}
use Rattle.pass_proofs.specs.run_laws.memory.Pointers.{IsValue}
use Rattle.pass_proofs.specs.run_memory.declared.pointer.Value.{Value}
use Rattle.pass_proofs.specs.run_source.Source.{left_windows}
use Rattle.pass_proofs.specs.run_source.State.{work_of}
use Rattle.pass_proofs.specs.run_source.declared.state.Activation.{Activation}
use Rattle.pass_proofs.specs.run_source.declared.state.State.{State}
use Rattle.pass_proofs.specs.run_source_tables.Given.{facts_at}
use Rattle.pass_proofs.specs.run_step.Step.{AtTerm, GoTo, fetch, phi_values, term_action, with_all}
use Rattle.pass_proofs.specs.run_step.Values.{Env, operand_value}

-- ---- both steps

module _ (e : Elision) (s t : State) (r : AreElided e s t) (label : ℕ) (at : IsAtEdge e s t label) where
  abbrev f : Function
  f = function_in e s.top.func

  abbrev to : ℕ
  to = position_of f label

  abbrev from : ℕ
  from = label_from f s.top.block

  abbrev phis : List Phi
  phis = phis_at f to

  abbrev vs : Env
  vs = with_all s.top.values (phi_values e.code s.top.values from phis)

  abbrev ws : Env
  ws = with_all t.top.values (phi_values e.code t.top.values from phis)

  abbrev u : State
  u = at_itself e s t

  abbrev a : Activation
  a = record s.top { block = to; at = 0; values = vs }

  abbrev c : Activation
  c = record t.top { block = to; at = 0; values = ws }

  -- ---- the second run's step

  function_is : function_in_elided e t.top.func ≡ function_in_elided e s.top.func
  function_is = ap (function_in_elided e) r.top.func

  there_too : fetch (function_in_elided e t.top.func) t.top.block (own_at (rooms e s.top.func) f s.top.block s.top.at)
      ≡ AtTerm at.enters.term
  there_too =
      let h = term_end f s.top.block s.top.at at.enters.term at.enters.there in
      (λ i. fetch (function_is i) (at.beside i) (own_at (rooms e s.top.func) f s.top.block (h.at_end i)))
      ∙ ((code_of e s.top.func).term s.top.block h.own h.there ∙ ap AtTerm h.is)

  chosen_stands : (ty : Ty)
      → IsValue r.homes (operand_value e.code s.top.values ty (chosen_by at.enters.term))
      (operand_value (elided_code e) t.top.values ty (chosen_by at.enters.term))
  chosen_stands ty =
      subst (λ (v : Value). IsValue r.homes (operand_value e.code s.top.values ty (chosen_by at.enters.term)) v)
      (sym (same_operand e t.top.values ty (chosen_by at.enters.term)))
      (operand_stands e s t r (chosen_by at.enters.term) at.chosen ty)

  goes_there : term_action (framed_context (elided e) u) (work_of u) at.enters.term ≡ GoTo label
  goes_there =
      goes_too r.homes (framed_context (framed e) s) (framed_context (elided e) u) (work_of s) (work_of u)
      at.enters.term label (λ k. same_operand e [] k.ty k.value) chosen_stands at.enters.goes

  stays_too : KeepsWindows e s.top.func → left_windows (elided e).given u label ≡ []
  stays_too (inl no_saves) =
      let none : windows_of (function_in_elided e t.top.func) ≡ []
      = ap windows_of (function_is ∙ (finds_alike e).functions s.top.func)
      ∙ elided_without (rooms e s.top.func) f no_saves in
      ap (filter (leaves (record { block = t.top.block; at = own_at (rooms e s.top.func) f s.top.block s.top.at })
      (entry_point (function_in_elided e t.top.func) label))) (elided_windows e t.top.func ∙ none)
  stays_too (inr none) =
      let same : function_in_elided e t.top.func ≡ f = function_is ∙ function_same e s.top.func none in
      let windows : (facts_at (elided e).given.facts t.top.func).windows
      ≡ (facts_at (framed e).given.facts s.top.func).windows
      = elided_windows e t.top.func ∙ (ap windows_of same ∙ sym (framed_windows e s.top.func)) in
      let place = own_same (rooms e s.top.func) f none s.top.block s.top.at in
      (λ i. filter (leaves (record { block = at.beside i; at = place i }) (entry_point (same i) label)) (windows i))
      ∙ at.enters.stays

  enters_too : IsEntering (elided e) u label
  enters_too = record {
    runs = r.outcome ∙ at.enters.runs;
    term = at.enters.term;
    there = there_too;
    goes = goes_there;
    stays = stays_too at.windows;
  }

  first : framed_step (framed e) s ≡ record s { top = a }
  first = entered (framed e) s label at.enters

  second : framed_step (elided e) u ≡ record t { top = c }
  second =
      entered (elided e) u label enters_too
      ∙ (enters e u label s.top.func r.top.func
      ∙ (λ i. record t {
        top = record t.top {
          block = to;
          at = 0;
          values = with_all t.top.values (phi_values e.code t.top.values (label_from f (at.beside i)) phis);
        };
      }))

  pub goes_beside : AreElided e (framed_step (framed e) s) (framed_step (elided e) (at_itself e s t))
  goes_beside =
      subst (λ (p : State × State). AreElided e p.0 p.1) (λ i. (sym first i, sym second i))
      (edge_moved e s t r to s.top.has_left t.top.has_left r.top.has_left at.made at.phis at.held)
