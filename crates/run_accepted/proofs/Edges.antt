-- Where edges of a coroutine have blocks it keeps what runs ask of places and of markers, if it did.
use Rattle.std.proofs.Common.{◌≡◌, ◌⊎◌, inl, inr, ℕ, ◌+◌, Bool, true, List, [], ◌∷◌, Option, None}
use Rattle.std.proofs.Common.{sym, ap, ◌∙◌, subst, length, arith}
use Rattle.pass_proofs.specs.flow_points.Reached.{IsReached}
use Rattle.pass_proofs.proofs.frame_slots.Points.{where_complete}
use Rattle.pass_proofs.proofs.ir_laws.paths.threads.Threads.{leads_home}
use Rattle.pass_proofs.specs.ir_model.declared.instr.Terminator.{Terminator}
use Rattle.pass_proofs.specs.ir_model.declared.module.Block.{Block}
use Rattle.pass_proofs.specs.ir_model.declared.module.Function.{Function}
use Rattle.pass_proofs.specs.ir_model.declared.module.Module.{Module}
use Rattle.pass_proofs.specs.ir_model.declared.operand.Arg.{Arg}
use Rattle.pass_proofs.specs.ir_model.declared.operand.Intrinsic.{Intrinsic}
use Rattle.pass_proofs.specs.ir_model.declared.operand.Operand.{Operand}
use Rattle.pass_proofs.proofs.ir_paths.Right.{facts_of_right}
use Rattle.pass_proofs.specs.ir_paths.Facts.{facts_of}
use Rattle.pass_proofs.specs.ir_paths.Paths.{Leads}
use Rattle.pass_proofs.specs.ir_paths.Slots.{IsRampSlot}
use Rattle.pass_proofs.specs.ir_paths.Windows.{IsInWindow, is_call_of, points_where}
use Rattle.pass_proofs.specs.ir_paths.declared.point.Point.{Point}
use Rattle.pass_proofs.specs.pass_edges.EdgeBlocks.{split_term, with_edge_blocks}
use Rattle.pass_proofs.specs.pass_kept_proof.SuspendRules.{IsCallAt, KeepsSuspendRules}
use Rattle.pass_proofs.proofs.early.path_rules.Marked.{some_window, window_some}
use Rattle.pass_proofs.proofs.early.save_simulation.Suspending.{fetch_at}
use Rattle.pass_proofs.proofs.edges.paths.Slots.{same_ramp_slots}
use Rattle.pass_proofs.proofs.edges.rules.Alive.{avoided, from_where, nothing, points_avoided}
use Rattle.pass_proofs.proofs.edges.rules.Homes.{IsEdge, IsOwn, home}
use Rattle.pass_proofs.proofs.kept.sources.EdgeWindows.{IsPair as IsPairFrom, call_home, instr_at_home, instr_from}
use Rattle.pass_proofs.proofs.kept.sources.EdgeWindows.{old_window, pair_home, ways}
use Rattle.pass_proofs.proofs.kept.sources.Names.{plain_names}
use Rattle.pass_proofs.proofs.kept.sources.SaveTokens.{none_from_entry, one_save}
use Rattle.pass_proofs.proofs.kept.sources.Suspends.{behind_last}
use Rattle.pass_proofs.specs.edges.paths.Spots.{moved}
use Rattle.pass_proofs.specs.edges.states.MovedState.{KeepsEdges}
use Rattle.pass_renewed_meaning.specs.pass_renewed_proof.SlotRules.{IsMadeOnce, IsMarkerAt}
use Rattle.pass_proofs.proofs.rule_laws.frames.alike_slots.Tests.{passed}
use Rattle.pass_proofs.proofs.rule_laws.rules.sources.Places.{IsEnd, instr_there, point, term_there}
use Rattle.pass_proofs.specs.rule_laws.rules.function_rules.Kept.{KeepsFunctionRules}
use Rattle.pass_proofs.specs.rule_shape.OneOfEach.{wrong_call}
use Rattle.pass_proofs.specs.rule_shape.Switches.{wrong_switch}
use Rattle.pass_proofs.specs.rule_slots.Closed.{IsClosed}
use Rattle.run_accepted.proofs.Alive.{ended, ramp_named}
use Rattle.run_accepted.proofs.Entries.{never_entered}
use Rattle.run_accepted.proofs.Marks.{marks_alloca}
use Rattle.run_accepted.proofs.Once.{made_once}
use Rattle.run_accepted.proofs.Places.{has_stop}
use Rattle.pass_renewed_meaning.specs.run_hooks.Away.{ComesTo, IsPair, KeepsPlaceRules}
use Rattle.pass_renewed_meaning.specs.run_hooks.alive.Alive.{IsMarker, KeepsAliveRules}
use Rattle.pass_proofs.specs.rule_windows.Sets.{IsAfterEnd, RunsOut}
use Rattle.pass_proofs.specs.run_step.Step.{AtTerm, fetch}

same_return : (flags : List Bool) (resumes : Bool) (n : ℕ) (arg : Option Arg) (t : Terminator)
    → split_term flags resumes n t ≡ Terminator.Ret arg → t ≡ Terminator.Ret arg
same_return flags resumes n arg (Terminator.Jump label) e = absurd (cc)
same_return flags resumes n arg (Terminator.Branch c a b) e = absurd (cc)
same_return flags resumes n arg (Terminator.Switch x default cases) e = absurd (cc)
same_return flags resumes n arg (Terminator.Ret value) e = e
same_return flags resumes n arg Terminator.Unreachable e = absurd (cc)

module _ (f : Function) (keeps : KeepsEdges f) where
  abbrev g : Function
  g = with_edge_blocks f

  -- ---- paths from begins and from ends

  -- a point that is reached from calls without others is reached so in the function
  reached_home : (one other : Intrinsic) (p : Point)
      → IsReached g (points_where (is_call_of one) g)
      (points_where (is_call_of other) g) (moved f p)
      → IsReached f (points_where (is_call_of one) f)
      (points_where (is_call_of other) f) p
  reached_home one other p r =
      let x = from_where f keeps.labels (is_call_of one) r.start r.is_start in
      record {
        start = x.point;
        is_start = x.there;
        path = leads_home f g (moved f) (ways f keeps) (points_where (is_call_of other) f)
            (points_where (is_call_of other) g) (avoided f keeps.labels (is_call_of other)) x.point p
            (subst (λ (q : Point). Leads g (points_where (is_call_of other) g) q (moved f p)) x.is r.path);
      }

  pub after_home : (p : Point) → IsAfterEnd g (moved f p) → IsAfterEnd f p
  after_home p a =
      let x = from_where f keeps.labels (is_call_of Intrinsic.CoroEnd) a.start a.is_start in
      record {
        start = x.point;
        is_start = x.there;
        path = leads_home f g (moved f) (ways f keeps) [] [] (nothing f keeps.labels) x.point p
            (subst (λ (q : Point). Leads g [] q (moved f p)) x.is a.path);
      }

  out_home : (p : Point) → RunsOut g (moved f p) → RunsOut f p
  out_home p r = reached_home Intrinsic.CoroBegin Intrinsic.CoroEnd p r

  -- ---- closed places

  pub closed_home : (p : Point) → IsClosed g (moved f p) → IsClosed f p
  closed_home p (inl a) = inl (after_home p a)
  closed_home p (inr w) =
      let x = some_window g (moved f p) w in
      let y = passed (is_call_of Intrinsic.CoroSave) g x.save x.stands in
      let c : IsCallAt Intrinsic.CoroSave g x.save =
      record { instr = y.instr; stands = fetch_at g x.save y.instr y.is; is = y.passes_it } in
      let z = pair_home f keeps x.save x.suspend c x.is_suspend in
      inr (window_some f p z.old_save z.old_suspend
      (where_complete (is_call_of Intrinsic.CoroSave) f z.old_save z.call.instr
      (instr_there f z.old_save.block z.old_save.at z.call.instr
      z.call.stands) z.call.is) z.pair (old_window f keeps x.save x.suspend p z x.inside))

  -- ---- returns

  record IsReturnFrom (p : Point) (arg : Option Arg) : Type 0 where
    place : Point
    is : p ≡ moved f place
    stands : fetch f place.block place.at ≡ AtTerm (Terminator.Ret arg)

  return_from : (p : Point) (arg : Option Arg) → fetch g p.block p.at ≡ AtTerm (Terminator.Ret arg)
      → IsReturnFrom p arg
  return_from p arg e = on (home f p.block x.own x.got)
    where
      x : IsEnd g p.block p.at (Terminator.Ret arg)
      x = term_there g p.block p.at (Terminator.Ret arg) e

      own : (y : IsOwn f p.block x.own) → IsReturnFrom p arg
      own y =
          let lengths : length x.own.instrs ≡ length y.block.instrs = ap (λ (b : Block). length b.instrs) y.is in
          let term : y.block.term ≡ Terminator.Ret arg = same_return _ _ _ arg y.block.term
          (sym (ap (λ (b : Block). b.term) y.is) ∙ x.is) in
          record {
            place = point y.index p.at;
            is = λ j. point (y.stands j) p.at;
            stands = behind_last f y.index p.at y.block y.got (x.last ∙ lengths) ∙ ap AtTerm term;
          }

      on : IsOwn f p.block x.own ⊎ IsEdge f p.block x.own → IsReturnFrom p arg
      on (inl y) = own y
      on (inr y) =
          let jump : Terminator.Jump y.edge.target ≡ Terminator.Ret arg =
          sym (ap (λ (b : Block). b.term) y.is) ∙ x.is in
          absurd (cc)

  -- ---- saves and suspends

  pub after_from : (j : Intrinsic) (p : Point) → IsAfterEnd g p → IsCallAt j g p
      → (q : Point) × (IsAfterEnd f q × IsCallAt j f q)
  after_from j p a c =
      let x = instr_from f keeps p c.instr c.stands in (
        x.place,
        (
          after_home x.place (subst (IsAfterEnd g) x.is a),
          call_home f keeps j x.place (subst (IsCallAt j g) x.is c),
        ),
      )

  pair_of : (k s : Point) (x : IsPairFrom f keeps k s) → IsPair f x.old_save x.old_suspend
  pair_of k s x = record { is_save = x.call; takes = x.pair }

  -- a call in a window stands in one of the function
  inside_from : (j : Intrinsic) (k s p : Point) (x : IsPairFrom f keeps k s) → IsInWindow g k s p → IsCallAt j g p
      → (q : Point) × (IsInWindow f x.old_save x.old_suspend q × IsCallAt j f q)
  inside_from j k s p x w c =
      let y = instr_from f keeps p c.instr c.stands in (
        y.place,
        (
          old_window f keeps k s y.place x (subst (IsInWindow g k s) y.is w),
          call_home f keeps j y.place (subst (IsCallAt j g) y.is c),
        ),
      )

  abbrev next_of : (q : Point) → Point
  next_of q = record { block = q.block; at = q.at + 1 }

  -- a way back to a suspend without its save is one of the function
  back_from : (k s : Point) → ComesTo g (moved f k) (moved f s) (next_of (moved f s)) → ComesTo f k s (next_of s)
  back_from k s w = record {
    not_save = λ e. w.not_save (ap (moved f) e);
    way = inr (on w.way);
  }
    where
      on : (next_of (moved f s) ≡ moved f s) ⊎ Leads g (moved f k ∷ []) (next_of (moved f s)) (moved f s)
          → Leads f (k ∷ []) (next_of s) s
      on (inl e) = let same : s.at + 1 ≡ s.at = ap (λ (p : Point). p.at) e in absurd (omega (arith, same))
      on (inr l) = leads_home f g (moved f) (ways f keeps) (k ∷ []) (moved f k ∷ [])
          (points_avoided f keeps.labels (k ∷ [])) (next_of s) s l

  -- ---- the rules

  module _ (m : Module) (k : ℕ) (coroutine : f.coroutine ≡ true) (rules : KeepsFunctionRules m k (with_edge_blocks f))
      (calls : wrong_call k (with_edge_blocks f) ≡ None) (switches : wrong_switch k (with_edge_blocks f) ≡ None)
      (kept : KeepsSuspendRules (with_edge_blocks f)) where
    pub edges_keep_places : (n : Module) → KeepsPlaceRules n f → KeepsPlaceRules m (with_edge_blocks f)
    edges_keep_places n old = record {
      stops = λ s c. has_stop m k g coroutine rules.definitions calls switches kept s c;
      no_suspend = λ p a c. let x = after_from Intrinsic.CoroSuspend p a c in old.no_suspend x.0 x.1.0 x.1.1;
      once = λ save j s p q. one_save k m g rules save j s p.is_save p.takes q.is_save q.takes;
      leads = λ save s p. kept.leads save s p.is_save p.takes;
      entry = λ save s p w. none_from_entry k m g rules save s p.is_save p.takes w.not_save w.way;
      back = λ save s p w.
          let x = pair_home f keeps save s p.is_save p.takes in
          old.back x.old_save x.old_suspend (pair_of save s x) (back_from x.old_save x.old_suspend
          (subst (λ (z : Point). ComesTo g z (moved f x.old_suspend) (next_of (moved f x.old_suspend))) x.save_is
          (subst (λ (z : Point). ComesTo g save z (next_of z)) x.suspend_is w)));
      no_save = λ save s p pair inside c.
          let x = pair_home f keeps save s pair.is_save pair.takes in
          let y = inside_from Intrinsic.CoroSave save s p x inside c in
          old.no_save x.old_save x.old_suspend y.0 (pair_of save s x) y.1.0 y.1.1;
      no_suspend_in = λ save s p pair inside c.
          let x = pair_home f keeps save s pair.is_save pair.takes in
          let y = inside_from Intrinsic.CoroSuspend save s p x inside c in
          old.no_suspend_in x.old_save x.old_suspend y.0 (pair_of save s x) y.1.0 y.1.1;
      no_end = λ save s p pair inside c. kept.no_end save s p pair.is_save pair.takes inside c;
    }

    -- ---- markers

    -- a slot that a marker takes is made once in the function too
    made_old : KeepsAliveRules f (facts_of f).ramp_slots → (marker : Intrinsic) → IsMarker marker → (a : ℕ) (q : Point)
        → IsMarkerAt f marker a q → IsMadeOnce f a
    made_old old marker is a q x =
        let y = old.marked marker is q x.instr x.stands x.is in
        let both : Operand.Local y.alloca ≡ Operand.Local a = sym y.takes ∙ x.takes in
        let same : y.alloca ≡ a = cc in
        subst (IsMadeOnce f) same y.made

    ramp_now : (a : ℕ) → IsMadeOnce f a → IsRampSlot f a → IsRampSlot (with_edge_blocks f) a
    ramp_now a made is =
        let own = ((facts_of_right (with_edge_blocks f)).ramp_slots a).0
        (same_ramp_slots f keeps.labels keeps.once keeps.phis a ∙ ramp_named f a made is) in
        own.1

    closed_old : KeepsAliveRules f (facts_of f).ramp_slots → (marker : Intrinsic) → IsMarker marker → (a : ℕ)
        (p : Point) → IsMarkerAt g marker a p → IsClosed g p → (IsRampSlot (with_edge_blocks f) a → ⊥) → ⊥
    closed_old old marker is a p x shut no_ramp =
        let y = instr_from f keeps p x.instr x.stands in
        let now : IsMarkerAt f marker a y.place = record {
          instr = x.instr;
          stands = instr_at_home f keeps y.place x.instr
              (ap (λ (z : Point). fetch g z.block z.at) (sym y.is) ∙ x.stands);
          is = x.is;
          takes = x.takes;
        } in
        let made = made_old old marker is a y.place now in
        old.closed marker is a y.place now (closed_home y.place (subst (IsClosed g) y.is shut)) made
        (λ r. no_ramp (ramp_now a made r))

    pub edges_keep_alive : KeepsAliveRules f (facts_of f).ramp_slots
        → KeepsAliveRules (with_edge_blocks f) (facts_of (with_edge_blocks f)).ramp_slots
    edges_keep_alive old = record {
      made = λ a ty align block at e. made_once m k g rules a ty align block at e;
      marked = λ marker is p i e call. marks_alloca m k g rules marker is p i e call;
      closed = λ marker is a p x shut made no_ramp. closed_old old marker is a p x shut no_ramp;
      first = λ p i e same. ended g (plain_names m k g rules (λ c. calls)) p i e same;
      entry = λ block at label h same. never_entered m k g rules block at label h same;
      returns = λ p arg e r.
          let x = return_from p arg e in
          old.returns x.place arg x.stands (out_home x.place (subst (RunsOut g) x.is r));
      no_save = λ p a c. let x = after_from Intrinsic.CoroSave p a c in old.no_save x.0 x.1.0 x.1.1;
      ramp = λ a made is. ramp_named g a made is;
    }
