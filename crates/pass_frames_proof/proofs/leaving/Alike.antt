-- Windows that a branch leaves in both runs are one to one.
use Rattle.std.proofs.Common.{◌≡◌, ◌+◌, ◌==◌, ◌∷◌, ◌∙◌, [], if◌then◌else◌, Bool, List, ap, arith, false, inl, inr, length, refl, subst, sym, true, ℕ, ⊎_elim}
use Rattle.std.specs.Prelude.{filter}
use Rattle.pass_frames_steps.specs.flow_solver.Paths.{IsListed}
use Rattle.pass_frames_steps.specs.ir_model.Names.{function_at}
use Rattle.pass_frames_steps.specs.ir_paths.Paths.{entry_point}
use Rattle.pass_frames_steps.specs.ir_paths.Windows.{leaves}
use Rattle.pass_frames_steps.specs.ir_paths.declared.point.Point.{Point}
use Rattle.pass_frames_steps.specs.ir_paths.declared.point.Window.{Window}
use Rattle.pass_frames_proof.proofs.from_edges.Places.{return_there}
use Rattle.pass_frames_proof.proofs.jumping.Places.{ends_there}
use Rattle.pass_frames_proof.proofs.leaving.Branches.{none_left}
use Rattle.pass_frames_steps.proofs.stepping.Stands.{top_is}
use Rattle.pass_frames_steps.specs.Code.{end_code, front_code, last_state}
use Rattle.pass_frames_steps.specs.FromEdges.{IsAtReturn}
use Rattle.pass_frames_steps.specs.Leaving.{AreWindowsPlaced, IsAtBranch, IsBranch, IsWindowPlaced, further}
use Rattle.pass_frames_steps.specs.Places.{Framing, edged, framed, instrs_at, is_return, own_place, place, place_by}
use Rattle.pass_frames_steps.specs.Passes.{block_at}
use Rattle.pass_frames_steps.specs.Related.{AreBuiltOf, Building, point_of}
use Rattle.pass_frames_steps.specs.Stepping.{AreGiven}
use Rattle.pass_frames_steps.specs.pass_renewed_proof.Renewed.{RenewedGiven}
use Rattle.pass_frames_steps.specs.run_laws.changed.Changed.{Each}
use Rattle.pass_frames_steps.specs.run_source.Source.{left_windows}
use Rattle.pass_frames_steps.specs.run_source.State.{function_of, own_facts, point_of as state_point}
use Rattle.pass_frames_steps.specs.run_source.declared.state.State.{State}
use Rattle.pass_frames_steps.specs.run_source_tables.Given.{facts_at}

-- ---- lists of windows

-- one to one, by their saves
abbrev AreSaved : Framing → List Window → List Window → Type 0
AreSaved x [] [] = Unit {0}
AreSaved x [] (w ∷ ws) = ⊥
AreSaved x (v ∷ vs) [] = ⊥
AreSaved x (v ∷ vs) (w ∷ ws) = (w.save ≡ own_place x v.save) × AreSaved x vs ws

filtered : (x : Framing) (P Q : Window → Bool) (vs ws : List Window)
    → ((v w : Window) → IsWindowPlaced x v w → Q w ≡ P v) → AreWindowsPlaced x vs ws
    → AreSaved x (filter P vs) (filter Q ws)
filtered x P Q [] [] same h = tt
filtered x P Q [] (w ∷ ws) same h = absurd h
filtered x P Q (v ∷ vs) [] same h = absurd h
filtered x P Q (v ∷ vs) (w ∷ ws) same h = on (P v) (Q w) (same v w h.0) (filtered x P Q vs ws same h.1)
  where
    on : (p q : Bool) → q ≡ p → AreSaved x (filter P vs) (filter Q ws)
        → AreSaved x (if p then v ∷ filter P vs else filter P vs) (if q then w ∷ filter Q ws else filter Q ws)
    on true true e k = (h.0.save, k)
    on true false e k = absurd (cc)
    on false true e k = absurd (cc)
    on false false e k = k

saved_listed : (x : Framing) (all vs ws : List Window) → ((z : Window) → IsListed z vs → IsListed z all)
    → AreSaved x vs ws
    → Each (λ (w : Window). (z : Window) × IsListed z all × (w.save ≡ own_place x z.save)) ws
saved_listed x all [] [] among h = tt
saved_listed x all [] (w ∷ ws) among h = absurd h
saved_listed x all (v ∷ vs) [] among h = absurd h
saved_listed x all (v ∷ vs) (w ∷ ws) among h =
    ((v, among v (inl refl), h.0), saved_listed x all vs ws (λ z l. among z (inr l)) h.1)

-- ---- the branch

module _ (b : Building) (g : RenewedGiven) (given : AreGiven b g) (s u : State) (func : u.top.func ≡ s.top.func)
    (point : point_of u.top
    ≡ record { block = s.top.block; at = length (block_at (framed (b.framing s.top.func)) s.top.block).instrs })
    (label : ℕ) (h : IsAtBranch b g s label) where
  abbrev x : Framing
  x = b.framing s.top.func

  abbrev k : ℕ
  k = s.top.block

  source_is : function_of g.given s ≡ edged x
  source_is = given.coroutines s.top.func h.coroutine

  target_is : function_of b.given.given u ≡ framed x
  target_is = (λ j. function_at (given.code j) (func j)) ∙ (given.built.coroutines s.top.func h.coroutine).is

  same_leaves : (v w : Window) → IsWindowPlaced x v w
      → leaves (state_point u) (entry_point (function_of b.given.given u) label) w
      ≡ leaves (state_point s) (entry_point (function_of g.given s) label) v
  same_leaves v w q =
      (λ j. leaves (point j) (entry_point (target_is j) label) w)
      ∙ q.leaves_too k label h.target h.here h.labelled
      ∙ sym (λ j. leaves (record { block = k; at = h.at j }) (entry_point (source_is j) label) v)

  saved : AreSaved x (left_windows g.given s label) (left_windows b.given.given u label)
  saved =
      filtered x (leaves (state_point s) (entry_point (function_of g.given s) label))
      (leaves (state_point u) (entry_point (function_of b.given.given u) label)) (own_facts g.given s).windows
      (own_facts b.given.given u).windows same_leaves
      (subst (λ (f : ℕ). AreWindowsPlaced x (own_facts g.given s).windows (facts_at b.given.given.facts f).windows)
      (sym func) h.windows)

  branch_at : IsBranch b g s u label
  branch_at = on (left_windows g.given s label) (left_windows b.given.given u label) refl refl saved
    where
      on : (vs ws : List Window) → left_windows g.given s label ≡ vs → left_windows b.given.given u label ≡ ws
          → AreSaved x vs ws → IsBranch b g s u label
      on [] [] e d q = inl (record { source = e; target = d })
      on [] (w ∷ ws) e d q = absurd q
      on (v ∷ vs) [] e d q = absurd q
      on (v ∷ vs) (w ∷ ws) e d q = inr (record {
        window = v;
        more = vs;
        other = w;
        others = ws;
        source = e;
        target = d;
        saves = saved_listed x (v ∷ vs) (v ∷ vs) (w ∷ ws) (λ z l. l) q;
        after = h.after;
        does = h.does;
        coroutine = h.instances;
      })

module _ (b : Building) (g : RenewedGiven) (given : AreGiven b g) (s t : State) (r : AreBuiltOf b s t) (label : ℕ)
    (h : IsAtBranch b g s label) where
  abbrev x2 : Framing
  x2 = b.framing s.top.func

  abbrev k2 : ℕ
  k2 = s.top.block

  abbrev here : Point
  here = record { block = k2; at = length (instrs_at x2 k2) }

  abbrev ending : ℕ
  ending = length (end_code x2 k2 (last_state x2 k2))

  place_is : point_of t.top ≡ place x2 here
  place_is =
      r.top.place ∙ top_is b s.top h.coroutine h.mode
      ∙ ap (λ (n : ℕ). place x2 (record { block = k2; at = n })) h.at

  -- of a block that is on no edge
  pub branch_alike : is_return x2 k2 ≡ false → IsBranch b g s (further t ending) label
  branch_alike unreturned =
      branch_at b g given s (further t ending) r.top.func
      (ap (λ (p : Point). record { block = p.block; at = p.at + ending }) place_is
      ∙ ap (λ (n : ℕ). record { block = k2; at = n }) at_end)
      label h
    where
      at_end : (place x2 here).at + ending ≡ length (block_at (framed x2) k2).instrs
      at_end =
          let e : length (block_at (framed x2) k2).instrs + 1 ≡ (place x2 here).at + ending + 1 =
          (ends_there x2 (given.framings s.top.func h.coroutine) k2 h.here unreturned).whole in
          omega (arith, e)

  -- of a block on a resume or destroy edge
  pub edge_leaves_none : (order : ℕ) → IsAtReturn b s label order
      → left_windows b.given.given (further (further t (length (front_code x2 k2))) ending) label ≡ []
  edge_leaves_none order q =
      ⊎_elim (λ k. k.target)
      (λ k.
      let none = none_left g.given s h.after label q.instance.number q.instance.instance q.instance.own q.instance.there
      q.instance.running h.does in
      let same : [] ≡ k.window ∷ k.more = sym none ∙ k.source in
      absurd (cc))
      (branch_at b g given s (further (further t (length (front_code x2 k2))) ending) r.top.func
      (ap (λ (p : Point). record { block = p.block; at = p.at + length (front_code x2 k2) + ending }) place_is
      ∙ (λ j. record {
        block = k2;
        at = place_by x2 (record { block = k2; at = length (instrs_at x2 k2) }) (q.returned j) (k2 == 0) + length (front_code x2 k2) + ending;
      })
      ∙ ap (λ (n : ℕ). record { block = k2; at = n }) at_end)
      label h)
    where
      at_end : 0 + length (front_code x2 k2) + ending ≡ length (block_at (framed x2) k2).instrs
      at_end =
          let e : length (block_at (framed x2) k2).instrs + 1 ≡ length (front_code x2 k2) + ending + 1 =
          (return_there x2 (given.framings s.top.func h.coroutine) k2 q.later q.here q.no_instrs).whole_is in
          omega (arith, e)
