-- A label behind a suspend, and the entry block, are no blocks of their own, and no block frees there.
use Rattle.std.proofs.Common.{◌≡◌, ◌⊎◌, inl, inr, ◌∙◌, ℕ, Bool, true, false, List, length, ap, refl, sym, subst, if◌then◌else◌}
use Rattle.std.specs.Prelude.{None, Option, Some}
use Rattle.pass_elide_apart.specs.Behind.{GoesBehind, IsBehindSuspend}
use Rattle.pass_elide_edges.proofs.EdgesApart.{entry_apart, same_end, switch_apart}
use Rattle.pass_elide_edges.proofs.Staying.{to_one, to_other}
use Rattle.pass_elide_edges.specs.Keeping.{EntersAlone, HasEdge, KeepsEnds, MeetsThere, ShapesEnds}
use Rattle.pass_elide_edges.specs.States.{ApartIn, StandApart}
use Rattle.pass_elide_edges.proofs.pass_elide_proof.EdgeEntered.{term_end}
use Rattle.pass_elide_edges.proofs.pass_elide_proof.Facts.{not_both, some_none}
use Rattle.pass_elide_edges.specs.pass_elide_proof.EdgesFreeing.{FreesAside, FreesFrame}
use Rattle.pass_elide_edges.specs.pass_elide_proof.Elision.{Elision, Shape, function_in, no_shape}
use Rattle.pass_elide_edges.specs.pass_elide_proof.Match.{AreActivations, AreModes, Aside, Beside, Freeing, Given, IsAt, Same, Sides, Waiting, is_given_mode, was_given}
use Rattle.pass_elide_edges.specs.pass_elide_proof.Places.{instrs_of}
use Rattle.pass_elide_edges.specs.pass_elide_proof.Shapes.{AsksForFrame, JumpsTo}
use Rattle.pass_elide_kept.specs.Modules.{KeepsHandlesAndEnds, LeadsOut}
use Rattle.pass_elide_kept.specs.Runs.{LeadsPast}
use Rattle.pass_elide_edges.specs.pass_elide_proof.pass_proofs.flow_solver.Paths.{IsListed}
use Rattle.pass_elide_edges.specs.pass_elide_proof.pass_proofs.ir_model.Names.{position_of}
use Rattle.pass_elide_edges.specs.pass_elide_proof.pass_proofs.ir_model.declared.instr.Terminator.{Terminator}
use Rattle.pass_elide_edges.specs.pass_elide_proof.pass_proofs.ir_model.declared.module.Function.{Function}
use Rattle.pass_elide_edges.specs.pass_elide_proof.pass_proofs.ir_model.declared.operand.Operand.{Operand}
use Rattle.pass_elide_edges.specs.pass_elide_proof.pass_proofs.ir_paths.Paths.{targets}
use Rattle.pass_elide_edges.specs.pass_elide_proof.pass_proofs.run_laws.memory.Pointers.{Home}
use Rattle.pass_elide_edges.specs.pass_elide_proof.pass_proofs.run_source.declared.state.Activation.{Activation}
use Rattle.pass_elide_edges.specs.pass_elide_proof.pass_proofs.run_source.declared.state.Mode.{Mode}
use Rattle.pass_elide_edges.specs.pass_elide_proof.pass_proofs.run_step.Step.{AtTerm, fetch}

-- ---- what ends the block of a suspend

module _ (f : Function) (x : Shape) (from label : ℕ) (behind : IsBehindSuspend f from label) where
  no_jump : (other to : ℕ) → JumpsTo f other to → from ≡ other → ⊥
  no_jump other to jumps same =
      let never = sym behind.is
      ∙ same_end f x from other behind.edge.term (Terminator.Jump jumps.label) same behind.edge.stands jumps.stands in
      absurd (cc)

  no_branch : (other one two : ℕ) (y : Operand)
      → fetch f other (length (instrs_of f other)) ≡ AtTerm (Terminator.Branch y one two) → from ≡ other → ⊥
  no_branch other one two y ends same =
      let never = sym behind.is
      ∙ same_end f x from other behind.edge.term (Terminator.Branch y one two) same behind.edge.stands ends in
      absurd (cc)

leads_out : (f : Function) (from label : ℕ) → HasEdge f from label → LeadsOut f from label
leads_out f from label edge =
    let q = term_end f from (length (instrs_of f from)) edge.term edge.stands in
    record {
      block = q.own;
      there = q.there;
      among = subst (λ (t : Terminator). IsListed label (targets t)) (sym q.is) edge.leads;
    }

-- ---- edges to blocks of their own

jump_edge : (f : Function) (block to : ℕ) (j : JumpsTo f block to) → HasEdge f block j.label
jump_edge f block to j = record { term = Terminator.Jump j.label; stands = j.stands; leads = inl refl }

tests_edge : (f : Function) (x : Shape) (q : FreesFrame f x) (b : Bool)
    → HasEdge f q.tests (if b then q.other else q.one)
tests_edge f x q true = record {
  term = Terminator.Branch (Operand.Local q.tested) q.one q.other;
  stands = q.branch;
  leads = to_other q.one q.other (Operand.Local q.tested);
}
tests_edge f x q false = record {
  term = Terminator.Branch (Operand.Local q.tested) q.one q.other;
  stands = q.branch;
  leads = to_one q.one q.other (Operand.Local q.tested);
}

-- ---- a label behind a suspend frees nothing

pub label_frees : (e : Elision) → KeepsHandlesAndEnds e → (func from label : ℕ)
    → IsBehindSuspend (function_in e func) from label → LeadsPast e func label
label_frees e handles func from label behind = on ((e.shape func).frees to) refl
  where
    to : ℕ
    to = position_of (function_in e func) label

    on : (o : Option ℕ) → (e.shape func).frees to ≡ o → (e.shape func).frees to ≡ None
    on None is = is
    on (Some other) is =
        let p = handles.frees func to other is in
        absurd (no_branch (function_in e func) (e.shape func) from label behind p.frees.tests p.frees.one p.frees.other
        (Operand.Local p.frees.tested) p.frees.branch
        (p.entered from label (leads_out (function_in e func) from label behind.edge) refl))

module _ (e : Elision) (ends : KeepsEnds e) (func : ℕ)
    (alone : EntersAlone (function_in e func) (e.shape func)) where
  abbrev f : Function
  f = function_in e func

  abbrev x : Shape
  x = e.shape func

  -- ---- no block stands beside it

  aside_none : (block : ℕ) → ((k : AsksForFrame f x) → block ≡ k.after → ⊥)
      → ((q : FreesFrame f x) → FreesAside f x q.after q.beside → block ≡ q.after → ⊥) → x.aside block ≡ None
  aside_none block asked freed = on (x.aside block) refl (ends.shapes func)
    where
      on : (o : Option ℕ) → x.aside block ≡ o → (x ≡ no_shape) ⊎ ShapesEnds e func → x.aside block ≡ None
      on None is z = is
      on (Some other) is (inl none) =
          absurd (some_none (x.aside block) other is (ap (λ (y : Shape). y.aside block) none))
      on (Some other) is (inr z) = by (z.ends.asides block other is)
        where
          by : (block ≡ z.shape.asks.after) ⊎ MeetsThere f x block → x.aside block ≡ None
          by (inl same) = absurd (asked z.shape.asks same)
          by (inr m) = absurd (freed m.frame m.meets.aside (sym m.after))

  label_aside : (from label : ℕ) → IsBehindSuspend f from label → x.aside (position_of f label) ≡ None
  label_aside from label behind =
      aside_none (position_of f label)
      (λ k is. no_jump f x from label behind k.allocates k.after k.jumps
      (alone.into_after k from label behind.edge is))
      (λ q aside is. no_jump f x from label behind q.frees q.after q.jumps
      (alone.into_freed q aside from label behind.edge is))

  -- ---- nor does one beside the entry block, which frees nothing

  entry_aside : x.aside 0 ≡ None
  entry_aside =
      aside_none 0
      (λ k is. alone.entry k.allocates k.jumps.label (jump_edge f k.allocates k.after k.jumps)
      (k.jumps.leads ∙ sym is))
      (λ q aside is. alone.entry q.frees q.jumps.label (jump_edge f q.frees q.after q.jumps)
      (q.jumps.leads ∙ sym is))

  entry_frees : x.frees 0 ≡ None
  entry_frees = on (x.frees 0) refl (ends.shapes func)
    where
      on : (o : Option ℕ) → x.frees 0 ≡ o → (x ≡ no_shape) ⊎ ShapesEnds e func → x.frees 0 ≡ None
      on None is z = is
      on (Some other) is (inl none) =
          absurd (some_none (x.frees 0) other is (ap (λ (y : Shape). y.frees 0) none))
      on (Some other) is (inr z) =
          let k = z.ends.frees 0 other is in
          absurd (alone.entry k.frame.tests (if k.frame.is_eq then k.frame.other else k.frame.one)
          (tests_edge f x k.frame k.frame.is_eq) (k.frame.to_free ∙ k.frees))

-- ---- two activations that go on there

plain_mode : (m n : Mode) → AreModes m n → (m ≡ Mode.Ramp → ⊥) → is_given_mode n ≡ false
plain_mode _ _ (Same mode has) other = ap (λ (b : Bool). if b then false else true) has
plain_mode _ _ (Given block offset) other = absurd (other refl)

same_block : (e : Elision) (homes : List Home) (given : Bool) (a c : Activation) → is_given_mode c.mode ≡ false
    → (e.shape a.func).frees a.block ≡ None → (e.shape a.func).aside a.block ≡ None → IsAt e homes given a c
    → c.block ≡ a.block
same_block e homes given a c mode frees aside (Beside same at) = same
same_block e homes given a c mode frees aside (Waiting is waits stays) =
    absurd (not_both (is_given_mode c.mode) is mode)
same_block e homes given a c mode frees aside (Freeing is there stays) =
    absurd (some_none ((e.shape a.func).frees a.block) c.block there frees)
same_block e homes given a c mode frees aside (Aside is there at made) =
    absurd (some_none ((e.shape a.func).aside a.block) c.block there aside)

module _ (e : Elision) (ends : KeepsEnds e) (handles : KeepsHandlesAndEnds e)
    (alone : (func : ℕ) → EntersAlone (function_in e func) (e.shape func)) (homes : List Home) (hides : ℕ → Bool)
    (d : Sides) (a c : Activation) (r : AreActivations e homes hides d a c) where
  -- both stand in one block
  in_block : (block : ℕ) → a.block ≡ block → (a.mode ≡ Mode.Ramp → ⊥) → (e.shape a.func).frees block ≡ None
      → (e.shape a.func).aside block ≡ None
      → ApartIn (function_in e a.func) (e.shape a.func) (is_given_mode c.mode) (was_given d c) block block
      → StandApart e d a c
  in_block block here no_ramp frees aside apart =
      let there : c.block ≡ a.block
      = same_block e homes (was_given d c) a c (plain_mode a.mode c.mode r.mode no_ramp)
      (ap (e.shape a.func).frees here ∙ frees) (ap (e.shape a.func).aside here ∙ aside) r.place in
      subst (λ (p : ℕ × ℕ).
      ApartIn (function_in e a.func) (e.shape a.func) (is_given_mode c.mode) (was_given d c) p.0 p.1)
      (λ j. (sym here j, sym (there ∙ here) j)) apart

  pub behind_apart : GoesBehind e.code a → StandApart e d a c
  behind_apart k = on k.place
    where
      no_ramp_entering : a.mode ≡ Mode.Entering k.from k.label → a.mode ≡ Mode.Ramp → ⊥
      no_ramp_entering is ramp = absurd (cc)

      no_ramp_resumed : a.mode ≡ Mode.Resumed → a.mode ≡ Mode.Ramp → ⊥
      no_ramp_resumed is ramp = absurd (cc)

      on : ((a.mode ≡ Mode.Entering k.from k.label) × (a.block ≡ 0))
          ⊎ ((a.mode ≡ Mode.Resumed) × (a.block ≡ position_of (function_in e a.func) k.label) × (a.at ≡ 0))
          → StandApart e d a c
      on (inl h) =
          in_block 0 h.1 (no_ramp_entering h.0) (entry_frees e ends a.func (alone a.func))
          (entry_aside e ends a.func (alone a.func))
          (entry_apart (function_in e a.func) (e.shape a.func) (alone a.func) (is_given_mode c.mode) (was_given d c))
      on (inr h) =
          in_block (position_of (function_in e a.func) k.label) h.1 (no_ramp_resumed h.0)
          (label_frees e handles a.func k.from k.label k.behind)
          (label_aside e ends a.func (alone a.func) k.from k.label k.behind)
          (switch_apart (function_in e a.func) (e.shape a.func) (alone a.func) (is_given_mode c.mode) (was_given d c)
          k.from k.label k.behind.edge k.behind.arg k.behind.default k.behind.cases k.behind.is
          (plain_mode a.mode c.mode r.mode (no_ramp_resumed h.0)))
