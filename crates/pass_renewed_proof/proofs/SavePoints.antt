-- The points of a save, or of a suspend without a token, and of the suspend at which the instance is left.
use Rattle.std.proofs.Common.{◌≡◌, ℕ, ◌⊎◌, inl, inr, Bool, true, false, List, [], ◌∷◌}
use Rattle.std.proofs.Common.{Option, refl, sym, ◌∙◌, subst, ⊎_elim}
use Rattle.std.specs.Prelude.{IsTrue}
use Rattle.pass_kept_proof.specs.ir_model.Names.{function_at}
use Rattle.pass_kept_proof.specs.ir_model.declared.instr.Instr.{Instr}
use Rattle.pass_kept_proof.specs.ir_model.declared.module.Function.{Function}
use Rattle.pass_kept_proof.specs.ir_model.declared.module.Module.{Module}
use Rattle.pass_kept_proof.specs.ir_model.declared.operand.Intrinsic.{Intrinsic}
use Rattle.pass_kept_proof.specs.ir_paths.Paths.{IsPath, Leads, has_point, nexts}
use Rattle.pass_kept_proof.specs.ir_paths.Windows.{IsInWindow, end_block, is_call_of, points_where}
use Rattle.pass_kept_proof.specs.ir_paths.declared.point.Point.{Point}
use Rattle.frame_classes.specs.Alive.{MayBeAlive}
use Rattle.frame_classes.specs.Classes.{suspends}
use Rattle.frame_classes.specs.frame_slots.Uses.{ends_of}
use Rattle.pass_kept_proof.proofs.Rules.{suspend_is_suspend}
use Rattle.pass_kept_proof.specs.SuspendRules.{IsCallAt}
use Rattle.frame_classes.specs.rule_slots.Closed.{IsClosed}
use Rattle.pass_kept_proof.specs.rule_windows.Points.{ends}
use Rattle.pass_kept_proof.specs.rule_windows.Sets.{IsAfterEnd, RunsOut}
use Rattle.pass_kept_proof.specs.run_source.declared.state.Activation.{Activation}
use Rattle.pass_renewed_proof.proofs.Ahead.{leads_more, next_edge}
use Rattle.pass_renewed_proof.proofs.History.{alive_at_suspend, no_marker, no_start, save_ends, save_starts}
use Rattle.pass_renewed_proof.proofs.History.{used_at_suspend}
use Rattle.pass_renewed_proof.proofs.Left.{after_edge, call_listed, save_next, to_pairs}
use Rattle.pass_renewed_proof.proofs.Way.{same_instr}
use Rattle.pass_renewed_proof.specs.Ahead.{IsNoStart, IsUsedBefore}
use Rattle.pass_renewed_proof.specs.Beside.{place_in}
use Rattle.pass_renewed_proof.specs.Left.{IsLeftBy, behind}
use Rattle.pass_renewed_proof.specs.Making.{IsSaveOf}
use Rattle.pass_renewed_proof.specs.Renewed.{Flags, Roots}
use Rattle.pass_renewed_proof.specs.SlotRules.{IsMarkerAt, KeepsSlots}
use Rattle.pass_kept_proof.specs.ir_model.declared.operand.Callee.{Callee}
use Rattle.pass_renewed_proof.proofs.Passing.{unended, unstarted}
use Rattle.pass_renewed_proof.specs.Left.{AtSwitch}
use Rattle.pass_renewed_proof.specs.Making.{IsSuspendOf}

-- what is kept along edges is kept along a path
along : (f : Function) (H : Point → Type 0) → ((p q : Point) → has_point (nexts f p) q ≡ true → H p → H q) → (p :
    Point) (between : List Point) (q : Point) → IsPath f [] p between q → H p → H q
along f H more p [] q path h = more p q path h
along f H more p (v ∷ between) q path h = along f H more v between q path.2 (more p v path.0 h)

-- what such an instruction at the activation's place asks for, which leaves the instance Suspended at u
pub record IsSavingAt (m : Module) (flags : Flags) (a : Activation) (u : Point) : Type 0 where
  pub edge : has_point (nexts (function_at m a.func) (place_in a)) (behind (place_in a)) ≡ true
  pub suspend_call : IsCallAt Intrinsic.CoroSuspend (function_at m a.func) u
  pub no_start : (al : ℕ) → IsNoStart (function_at m a.func) al (place_in a)
  pub no_end : (al : ℕ) → has_point (ends_of (function_at m a.func) al) (place_in a) ≡ false
  pub used : (al : ℕ) → IsTrue (flags a.func al) → IsUsedBefore (function_at m a.func) al (place_in a)
      → IsUsedBefore (function_at m a.func) al u
  pub alive : (al : ℕ) → IsTrue (flags a.func al) → MayBeAlive (function_at m a.func) al (place_in a)
      → MayBeAlive (function_at m a.func) al u
  pub no_after : IsAfterEnd (function_at m a.func) (place_in a) → ⊥
  pub runs : RunsOut (function_at m a.func) (place_in a) → RunsOut (function_at m a.func) u
  pub onward : RunsOut (function_at m a.func) (place_in a) → RunsOut (function_at m a.func) (behind (place_in a)) ⊎
      IsAfterEnd (function_at m a.func) (behind (place_in a))
  pub left_by : IsLeftBy (function_at m a.func) u (behind (place_in a))
  pub stays : a.has_left ≡ false
  pub not_last : a.block ≡ end_block (function_at m a.func) → a.at ≡ 0 → ⊥

runs_more : (f : Function) (p q : Point) → has_point (nexts f p) q ≡ true → RunsOut f p ⊎ IsAfterEnd f p → RunsOut f q ⊎
    IsAfterEnd f q
runs_more f p q e (inr a) = inr (after_edge f p q a e)
runs_more f p q e (inl r) = on (has_point (ends f) p) refl
  where
    on : (z : Bool) → has_point (ends f) p ≡ z → RunsOut f q ⊎ IsAfterEnd f q
    on true is_end = inr (record { start = p; is_start = is_end; path = record { between = []; is_path = e } })
    on false out = inl (record {
      start = r.start;
      is_start = r.is_start;
      path = leads_more f (ends f) r.start p q r.path out e;
    })

-- ---- a suspend without a token

suspend_starts : (i : Instr) → is_call_of Intrinsic.CoroSuspend i ≡ true → is_call_of Intrinsic.LifetimeStart i ≡ false
suspend_starts (Instr.Call r must_tail ty (Callee.Intrinsic Intrinsic.CoroSuspend) args) e = refl
suspend_starts _ e = absurd (cc)

suspend_ends : (i : Instr) → is_call_of Intrinsic.CoroSuspend i ≡ true → is_call_of Intrinsic.LifetimeEnd i ≡ false
suspend_ends (Instr.Call r must_tail ty (Callee.Intrinsic Intrinsic.CoroSuspend) args) e = refl
suspend_ends _ e = absurd (cc)

pub suspend_saves : (m : Module) (flags : Flags) (roots : Roots) → ((func : ℕ)
    → KeepsSlots m (function_at m func) (flags func) (roots func)) → (a : Activation) (i : Instr) (result : Option ℕ)
    → IsSuspendOf m roots a i result → IsSavingAt m flags a (place_in a)
suspend_saves m flags roots keeps a i result is =
    let f : Function = function_at m a.func in
    let call : IsCallAt Intrinsic.CoroSuspend f (place_in a) = record {
      instr = i;
      stands = is.giving.here;
      is = is.is;
    } in
    let edge = next_edge f a.block a.at i is.giving.here in
    record {
      edge = edge;
      suspend_call = call;
      no_start = unstarted f (place_in a) i is.giving.here (suspend_starts i is.is);
      no_end = unended f (place_in a) i is.giving.here (suspend_ends i is.is);
      used = λ al flagged h. h;
      alive = λ al flagged h. h;
      no_after = λ after. (keeps a.func).no_suspend (place_in a) after call;
      runs = λ r. r;
      onward = λ r. runs_more f (place_in a) (behind (place_in a)) edge (inl r);
      left_by = AtSwitch refl;
      stays = is.stays;
      not_last = is.giving.place.no_end;
    }

-- ---- a save

module _ (m : Module) (flags : Flags) (roots : Roots) (keeps : (func : ℕ)
    → KeepsSlots m (function_at m func) (flags func) (roots func)) (a : Activation) (i : Instr) (u : Point) (is :
    IsSaveOf m a i u) where
  abbrev f : Function
  f = function_at m a.func

  abbrev k : Point
  k = place_in a

  call : IsCallAt Intrinsic.CoroSave (function_at m a.func) (place_in a)
  call = record { instr = i; stands = is.here; is = is.is }

  suspend_call : IsCallAt Intrinsic.CoroSuspend (function_at m a.func) u
  suspend_call = suspend_is_suspend f k u is.takes

  is_suspend : IsTrue (has_point (suspends (function_at m a.func)) u)
  is_suspend = call_listed f Intrinsic.CoroSuspend u suspend_call

  leads : Leads (function_at m a.func) [] (place_in a) u
  leads = (keeps a.func).suspends.leads k u call is.takes

  edge : has_point (nexts (function_at m a.func) (place_in a)) (behind (place_in a)) ≡ true
  edge = next_edge f a.block a.at i is.here

  no_start_here : (al : ℕ) → IsNoStart (function_at m a.func) al (place_in a)
  no_start_here al = no_start f al k (λ z. save_starts i is.is (subst (λ j. is_call_of Intrinsic.LifetimeStart j ≡
      true) (same_instr z.instr i (sym z.stands ∙ is.here)) z.is))

  no_end_here : (al : ℕ) → has_point (ends_of (function_at m a.func) al) (place_in a) ≡ false
  no_end_here al = no_marker f Intrinsic.LifetimeEnd al k (λ z. save_ends i is.is (subst (λ j. is_call_of
      Intrinsic.LifetimeEnd j ≡ true) (same_instr z.instr i (sym z.stands ∙ is.here)) z.is))

  -- no marker of a slot stands in the window
  quiet : (al : ℕ) → IsTrue (flags a.func al) → (q : Point)
      → IsInWindow (function_at m a.func) (place_in a) u q
      → (IsMarkerAt (function_at m a.func) Intrinsic.LifetimeStart al q → ⊥) × (IsMarkerAt (function_at m
      a.func) Intrinsic.LifetimeEnd al q → ⊥)
  quiet al flagged q w =
      let closed : IsClosed f q = inr (to_pairs f q k u (points_where (is_call_of Intrinsic.CoroSave) f) is.takes w
      (call_listed f Intrinsic.CoroSave k call)) in (
        λ z. (keeps a.func).open_markers Intrinsic.LifetimeStart al q (inl refl) flagged z closed,
        λ z. (keeps a.func).open_markers Intrinsic.LifetimeEnd al q (inr refl) flagged z closed,
      )

  used_there : (al : ℕ) → IsTrue (flags a.func al) → IsUsedBefore (function_at m a.func) al (place_in a)
      → IsUsedBefore (function_at m a.func) al u
  used_there al flagged used = used_at_suspend f al k u call is.takes (quiet al flagged) leads k (inl refl) used

  alive_there : (al : ℕ) → IsTrue (flags a.func al) → MayBeAlive (function_at m a.func) al (place_in a)
      → MayBeAlive (function_at m a.func) al u
  alive_there al flagged alive = alive_at_suspend f al k u call is.takes (quiet al flagged) leads k (inl refl) alive

  -- it leaves the instance at its suspend
  pub save_saves : IsSavingAt m flags a u
  save_saves = record {
    edge = edge;
    suspend_call = suspend_call;
    no_start = no_start_here;
    no_end = no_end_here;
    used = used_there;
    alive = alive_there;
    no_after = λ after. (keeps a.func).no_save k after call;
    runs = λ r. ⊎_elim
        (λ z. z)
        (λ after. absurd ((keeps a.func).no_suspend u after suspend_call))
        (along f (λ p. RunsOut f p ⊎ IsAfterEnd f p) (runs_more f) k leads.between u leads.is_path (inl r));
    onward = λ r. runs_more f k (behind k) edge (inl r);
    left_by = save_next f k u call is.takes leads;
    stays = is.stays;
    not_last = is.place.no_end;
  }
