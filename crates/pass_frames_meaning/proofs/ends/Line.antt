-- At the end of a block what is fetched there may be.
use Rattle.std.proofs.Common.{◌≡◌, ℕ, ◌<◌, ◌≤◌, Bool, true, false, List, [], ◌∷◌, length, Option, Some, None, refl, sym, ◌∙◌, subst, arith, if◌then◌else◌, ◌==◌}
use Rattle.std.specs.Prelude.{slice_get}
use Rattle.pass_frames_proof.proofs.ir_laws.facts.Truth.{equal_numbers}
use Rattle.pass_frames_proof.proofs.ir_laws.facts.Members.{at_each, each_all, each_both, each_turns}
use Rattle.pass_frames_proof.specs.ir_laws.facts.expanded.Tokens.{IsNamed}
use Rattle.pass_frames_proof.specs.ir_laws.facts.sound_states.Named.{HasNamedUses}
use Rattle.pass_frames_proof.specs.ir_laws.paths.threads.Labels.{HasLabelsBelow}
use Rattle.pass_frames_proof.specs.ir_model.declared.instr.Incoming.{Incoming}
use Rattle.pass_frames_proof.specs.ir_model.declared.instr.Phi.{Phi}
use Rattle.pass_frames_proof.specs.ir_model.declared.instr.Terminator.{Terminator}
use Rattle.pass_frames_proof.specs.ir_model.declared.operand.Operand.{Operand}
use Rattle.pass_frames_proof.specs.pass_cells.Cells.{fetches_of}
use Rattle.pass_frames_proof.specs.pass_fetch.Fetching.{fetch_of, fetched_operand, next_after, next_after_all, next_by, operand_by}
use Rattle.pass_frames_proof.specs.pass_fetch.Instrs.{fetched_term, term_operands}
use Rattle.pass_frames_proof.specs.pass_fetch.declared.fetch.Fetch.{Fetch}
use Rattle.pass_frames_meaning.proofs.ends.Counted.{addresses_before, addresses_fit, edged_named, fetched_written, loads_before, loads_fit, named_low, named_unmarked, phis_fetched, unmarked_framed, unmarked_low, written_unmarked}
use Rattle.pass_frames_meaning.proofs.ends.Incoming.{EachIncoming, incoming_both, incoming_loaded, incoming_turns}
use Rattle.pass_frames_meaning.proofs.ends.Seen.{addresses, can_be_loaded, can_be_reached, loads, seen}
use Rattle.pass_frames_meaning.specs.Ends.{AreComing}
use Rattle.pass_frames_proof.proofs.code.Left.{Far, far_named}
use Rattle.pass_frames_proof.proofs.code.Names.{far_left}
use Rattle.pass_frames_proof.proofs.distances.Sums.{more_below}
use Rattle.pass_frames_proof.proofs.fetched.Runs.{given_stays}
use Rattle.pass_frames_proof.proofs.jumping.Placed.{between_term}
use Rattle.pass_frames_proof.specs.Code.{address_state, last_state, load_name, slot_table}
use Rattle.pass_frames_proof.specs.Distances.{IsBelow, SetsFrom}
use Rattle.pass_frames_proof.specs.Ends.{IsPhiTwice}
use Rattle.pass_frames_proof.specs.Fetched.{CanFetch}
use Rattle.pass_frames_proof.specs.Framings.{IsFraming}
use Rattle.pass_frames_proof.specs.Jumps.{MayEndAt, label_at}
use Rattle.pass_frames_proof.specs.Led.{IsTwiceFor}
use Rattle.pass_frames_proof.specs.Lines.{at_work}
use Rattle.pass_frames_proof.specs.Passes.{block_at}
use Rattle.pass_frames_proof.specs.Phis.{CanComeFrom}
use Rattle.pass_frames_proof.specs.Places.{Framing, edged, fetched, framed, named, plan, unmarked}
use Rattle.pass_frames_proof.specs.Related.{AreBuiltOf, AreCellsRight, Building, is_coroutine}
use Rattle.pass_frames_proof.specs.Stepping.{AreGiven, AreOffsetsPlaced, IsBeginPlain, IsNotEntering, IsPlacedOperand}
use Rattle.pass_frames_proof.specs.pass_proofs.fetch.rules.Fetches.{base_of}
use Rattle.pass_frames_proof.specs.pass_renewed_proof.Renewed.{RenewedGiven}
use Rattle.pass_frames_proof.proofs.rule_laws.rules.named_results.Named.{locals_tabled}
use Rattle.pass_frames_proof.proofs.rule_laws.rules.known_labels.Known.{labels_known}
use Rattle.pass_frames_proof.specs.run_framed.Framed.{frame_rights, framed_context}
use Rattle.pass_frames_proof.specs.run_laws.changed.Changed.{Each, operands_of_term}
use Rattle.pass_frames_proof.specs.run_memory.declared.pointer.Value.{Value}
use Rattle.pass_frames_proof.specs.run_source.Source.{context_of}
use Rattle.pass_frames_proof.specs.run_source.State.{work_of}
use Rattle.pass_frames_proof.specs.run_source.declared.state.State.{State}
use Rattle.pass_frames_proof.specs.run_step.Step.{Context, Work, incoming_from}
use Rattle.pass_frames_proof.specs.run_step.Values.{value_in}

-- ---- operands

pub below_names : (n m : ℕ) → n ≤ m → (o : Operand) → IsNamed n o → IsBelow m o
below_names n m le (Operand.Local v) h = omega (arith, h, le)
below_names n m le _ h = tt

-- what may be fetched may be once new names are set
can_later : (t : List (Option Fetch)) (given : ℕ → Value) (c : Context) (n m : ℕ) (w z : Work) → SetsFrom n w z
    → n ≤ m → (o : Operand) → CanFetch t given n c w o → CanFetch t given m c z o
can_later t given c n m w z s le (Operand.Local v) h = λ f e.
    let y = h f e in
    let low : base_of f < n = y.1 in
    (given_stays t given c n w z f (given v) s low y.0, omega (arith, low, le))
can_later t given c n m w z s le _ h = tt

-- the operands of a terminator are those that are named
pub ends_named : (P : Operand → Type 0) (e : Terminator) → Each P (operands_of_term e) → Each P (term_operands e)
ends_named P (Terminator.Jump label) h = tt
ends_named P (Terminator.Branch x a b) h = h
ends_named P (Terminator.Switch arg default cases) h = (h.0, tt)
ends_named P (Terminator.Ret None) h = tt
ends_named P (Terminator.Ret (Some arg)) h = h
ends_named P Terminator.Unreachable h = tt

module _ (b : Building) (g : RenewedGiven) (given : AreGiven b g) (s t : State) (r : AreBuiltOf b s t)
    (coroutine : is_coroutine b s.top.func ≡ true) (mode : IsNotEntering s.top.mode)
    (plain : IsBeginPlain (b.framing s.top.func)) (placed : AreOffsetsPlaced (b.framing s.top.func)) (w : Work)
    (low : (u : ℕ) → u < length (named (b.framing s.top.func)).names
    → value_in w.values u ≡ value_in t.top.values u)
    (right : AreCellsRight (b.framing s.top.func) r.homes (frame_rights b.given t.instances) w.world.memory
    s.top.values (at_work t.top w))
    (room : length w.values ≡ length (framed (b.framing s.top.func)).names)
    (uses : HasNamedUses (edged (b.framing s.top.func)))
    (here : slice_get (edged (b.framing s.top.func)).blocks s.top.block
    ≡ Some (block_at (edged (b.framing s.top.func)) s.top.block))
    (coming : AreComing b s) where
  abbrev x : Framing
  x = b.framing s.top.func

  abbrev k : ℕ
  k = s.top.block

  abbrev d : Context
  d = framed_context b.given t

  abbrev T : List (Option Fetch)
  T = fetches_of (plan x)

  abbrev S : List (Option Fetch)
  S = slot_table x

  abbrev N : ℕ
  N = length (named x).names

  abbrev U : ℕ
  U = length (unmarked x).names

  abbrev n : ℕ
  n = load_name (last_state x k)

  abbrev m : ℕ
  m = (address_state (last_state x k)).0

  abbrev label : ℕ
  label = label_at x k

  abbrev e : Terminator
  e = (block_at (edged x) k).term

  abbrev L : ℕ → Value
  L = loads b g given s t r coroutine mode plain placed w low right

  abbrev A : ℕ → Value
  A = addresses b g given s t r coroutine mode plain placed w low right

  is : IsFraming x
  is = given.framings s.top.func coroutine

  far : length (edged x).names ≤ N
  far = edged_named x is k here

  -- new names aren't fetched by the second table
  new_unfetched : (j : ℕ) → N ≤ j → (n : ℕ) (z : Work) → CanFetch S A n d z (Operand.Local j)
  new_unfetched j le n z f eq =
      let a : Far x is ≤ N = far_named x is in
      let none = (far_left x is j (omega (arith, a, le))).0 in
      let no = sym none ∙ eq in
      absurd (cc)

  -- ---- what is asked of each operand

  can_T : (o : Operand) → CanFetch T L N d w o
  can_T o = can_be_loaded b g given s t r coroutine mode plain placed w low right N (omega arith) o

  can_S : (o : Operand) → IsPlacedOperand x s o → CanFetch S A N d w o
  can_S o h = can_be_reached b g given s t r coroutine mode plain placed w low right N (omega arith) o h

  -- ---- phis

  named_phis : EachIncoming (λ i. IsNamed (length (edged x).names) i.value) (edged x).blocks
  named_phis = uses.incoming

  phi_loads : EachIncoming (CanComeFrom T L N d w label) (edged x).blocks
  phi_loads = incoming_turns (λ i. IsNamed (length (edged x).names) i.value) (CanComeFrom T L N d w label)
      (λ i h from. (can_T i.value, below_names (length (edged x).names) N far i.value h)) (edged x).blocks named_phis

  abbrev Both : Incoming → Type 0
  Both i = IsNamed (length (edged x).names) i.value × (i.from ≡ label → IsPlacedOperand x s i.value)

  both : EachIncoming Both (edged x).blocks
  both = incoming_both (λ i. IsNamed (length (edged x).names) i.value)
      (λ i. i.from ≡ label → IsPlacedOperand x s i.value) (edged x).blocks named_phis coming.phis

  U_fit : length (fetched x).names ≤ U
  U_fit =
      let a = fetched_written x is k here in
      let c = written_unmarked x is k here in
      omega (arith, a, c)

  -- an operand that may have been loaded
  loaded_one : (z : Work) → SetsFrom N w z → (j : ℕ) (o : Operand) → N ≤ j → (f : Option Fetch)
      → next_by j f ≤ length (fetched x).names → IsNamed (length (edged x).names) o
      → CanFetch S A N d w o
      → CanFetch S A U d z (operand_by j f o) × IsBelow U (operand_by j f o)
  loaded_one z sets j o up None fit lt can = (
    can_later S A d N U w z sets (named_unmarked x is k here) o can,
    below_names (length (edged x).names) U
        (let a = far in let c = named_unmarked x is k here in omega (arith, a, c)) o lt,
  )
  loaded_one z sets j o up (Some f) fit lt can = (
    new_unfetched j up U z,
    let a = U_fit in omega (arith, a, fit),
  )

  phi_addresses : (z : Work) → SetsFrom N w z → EachIncoming (CanComeFrom S A U d z label) (unmarked x).blocks
  phi_addresses z sets = incoming_loaded x (length (fetched x).names) Both (CanComeFrom S A U d z label)
      (λ j i up fit h from. loaded_one z sets j i.value up (fetch_of T i.value) fit h.0 (can_S i.value (h.1 from)))
      (phis_fetched x is k here) both

  -- ---- the terminator

  term_named : Each (IsNamed (length (edged x).names)) (term_operands e)
  term_named = ends_named (IsNamed (length (edged x).names)) e
      (at_each _ (edged x).blocks k (block_at (edged x) k) uses.ends here)

  abbrev BothEnds : Operand → Type 0
  BothEnds o = IsNamed (length (edged x).names) o × IsPlacedOperand x s o

  both_ends : Each BothEnds (term_operands e)
  both_ends = each_both (IsNamed (length (edged x).names)) (IsPlacedOperand x s)
      (term_operands e) term_named coming.ends

  pub term_below : Each (IsBelow N) (term_operands e)
  term_below = each_turns (IsNamed (length (edged x).names)) (IsBelow N) (below_names (length (edged x).names) N far)
      (term_operands e) term_named

  n_low : N ≤ n
  n_low = named_low x is k here

  fit_one : (o : Operand) → next_after T n o ≤ length (fetched x).names → BothEnds o
      → (z : Work) → SetsFrom N w z
      → CanFetch S A m d z (fetched_operand T n o) × IsBelow m (fetched_operand T n o)
  fit_one o fit h z sets =
      let y = loaded_one z sets n o n_low (fetch_of T o) fit h.0 (can_S o h.1) in
      let up : U ≤ m = unmarked_low x is k here in
      (more_can (fetched_operand T n o) y.0 up, more_below U m (fetched_operand T n o) up y.1)
    where
      more_can : (p : Operand) → CanFetch S A U d z p → U ≤ m → CanFetch S A m d z p
      more_can (Operand.Local v) h up = λ f eq.
          let y = h f eq in
          let lt : base_of f < U = y.1 in
          (y.0, omega (arith, lt, up))
      more_can _ h up = tt

  -- each of them is the only one
  all_fit : (z : Work) → SetsFrom N w z
      → Each (λ o. CanFetch S A m d z o × IsBelow m o) (term_operands (fetched_term T n e))
  all_fit z sets = term_by e (loads_fit x is k here) both_ends
    where
      term_by : (q : Terminator) → next_after_all T n (term_operands q) ≤ length (fetched x).names
          → Each BothEnds (term_operands q)
          → Each (λ o. CanFetch S A m d z o × IsBelow m o) (term_operands (fetched_term T n q))
      term_by (Terminator.Jump l) fit h = tt
      term_by (Terminator.Branch y a c) fit h = (fit_one y fit h.0 z sets, tt)
      term_by (Terminator.Switch arg default cases) fit h = (fit_one arg.value fit h.0 z sets, tt)
      term_by (Terminator.Ret None) fit h = tt
      term_by (Terminator.Ret (Some arg)) fit h = (fit_one arg.value fit h.0 z sets, tt)
      term_by Terminator.Unreachable fit h = tt

  none_set : SetsFrom N w w
  none_set = record { world = refl; others = λ v lt. refl; room = refl }

  pub may_end : MayEndAt x L A d k w
  may_end = record {
    label_low = low_label;
    names = named_unmarked x is k here;
    loads = phi_loads;
    loads_before = loads_before x is k here;
    end_loads = λ z sets. each_all (CanFetch T L n d z)
        (λ o. can_later T L d N n w z sets n_low o (can_T o)) (term_operands e);
    end_below = each_turns (IsNamed (length (edged x).names)) (IsBelow n)
        (below_names (length (edged x).names) n (let a = far in let c = n_low in omega (arith, a, c)))
        (term_operands e) term_named;
    end_room =
        let a = loads_fit x is k here in
        let c = U_fit in
        let f = unmarked_framed x is k here in
        omega (arith, a, c, f, room);
    addresses = phi_addresses;
    addresses_before = addresses_before x is k here;
    end_addresses = λ z sets.
        subst (λ (q : Terminator). Each (CanFetch S A m d z) (term_operands q)) (sym (between_term x k here))
        (each_turns (λ o. CanFetch S A m d z o × IsBelow m o) (CanFetch S A m d z) (λ o h. h.0)
        (term_operands (fetched_term T n e)) (all_fit z sets));
    loaded_below =
        subst (λ (q : Terminator). Each (IsBelow m) (term_operands q)) (sym (between_term x k here))
        (each_turns (λ o. CanFetch S A m d w o × IsBelow m o) (IsBelow m) (λ o h. h.1)
        (term_operands (fetched_term T n e)) (all_fit w none_set));
    loaded_room = let a = addresses_fit x is k here in omega (arith, a, room);
  }
    where
      low_label : label < N
      low_label =
          let a : label < length (edged x).names =
          (at_each (HasLabelsBelow (length (edged x).names)) (edged x).blocks k (block_at (edged x) k)
          (labels_known is.position (edged x) is.frameable.rules.tabled x.code is.frameable.rules.known) here).label in
          let c = far in
          omega (arith, a, c)

  -- ---- what is seen of the terminator's operands

  pub term_seen : Each (IsTwiceFor r.homes T S L A (context_of g.given s) d (work_of s) w) (term_operands e)
  term_seen = each_turns BothEnds (IsTwiceFor r.homes T S L A (context_of g.given s) d (work_of s) w)
      (λ o h. seen b g given s t r coroutine mode plain placed w low right o
      (below_names (length (edged x).names) N far o h.0) h.1) (term_operands e) both_ends

  -- ---- what is seen of what comes to the phis of a block

  seen_named : (o : Operand) → IsNamed (length (edged x).names) o × IsPlacedOperand x s o
      → IsTwiceFor r.homes T S L A (context_of g.given s) d (work_of s) w o
  seen_named o h = seen b g given s t r coroutine mode plain placed w low right o
      (below_names (length (edged x).names) N far o h.0) h.1

  comes : (is : List Incoming) → Each Both is
      → IsNamed (length (edged x).names) (incoming_from is label) × IsPlacedOperand x s (incoming_from is label)
  comes [] h = (tt, tt)
  comes (i ∷ is) h = on (i.from == label) refl (comes is h.1)
    where
      on : (t : Bool) → (i.from == label) ≡ t
          → IsNamed (length (edged x).names) (incoming_from is label) × IsPlacedOperand x s (incoming_from is label)
          → IsNamed (length (edged x).names) (if t then i.value else incoming_from is label)
          × IsPlacedOperand x s (if t then i.value else incoming_from is label)
      on true q rest = (h.0.0, h.0.1 (equal_numbers i.from label q))
      on false q rest = rest

  module _ (j : ℕ) (there : slice_get (edged x).blocks j ≡ Some (block_at (edged x) j)) where
    all_come : Each (λ (p : Phi). Each Both p.incoming) (block_at (edged x) j).phis
    all_come = at_each _ (edged x).blocks j (block_at (edged x) j) both there

    all_low : Each (λ (p : Phi). p.result < length (edged x).names) (block_at (edged x) j).phis
    all_low = at_each _ (edged x).blocks j (block_at (edged x) j)
        (locals_tabled is.position (edged x) is.frameable.rules.tabled).phis there

    pub phis_seen : Each (IsPhiTwice r.homes T S L A (context_of g.given s) d (work_of s) w label
        (length (edged x).names)) (block_at (edged x) j).phis
    phis_seen =
        each_turns (λ (p : Phi). Each Both p.incoming × (p.result < length (edged x).names))
        (IsPhiTwice r.homes T S L A (context_of g.given s) d (work_of s) w label (length (edged x).names))
        (λ p h. record { low = h.1; stands = seen_named (incoming_from p.incoming label) (comes p.incoming h.0) })
        (block_at (edged x) j).phis
        (each_both (λ (p : Phi). Each Both p.incoming) (λ (p : Phi). p.result < length (edged x).names)
        (block_at (edged x) j).phis all_come all_low)

    pub phis_below : Each (λ (p : Phi). IsBelow N (incoming_from p.incoming label)) (block_at (edged x) j).phis
    phis_below =
        each_turns (λ (p : Phi). Each Both p.incoming) (λ (p : Phi). IsBelow N (incoming_from p.incoming label))
        (λ p h. below_names (length (edged x).names) N far (incoming_from p.incoming label) (comes p.incoming h).0)
        (block_at (edged x) j).phis all_come
