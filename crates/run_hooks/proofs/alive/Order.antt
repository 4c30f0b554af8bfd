-- What is known of a state's activations, by what is reached, who is last and where they are placed.
use Rattle.std.proofs.Common.{◌≡◌, ◌<◌, ◌≤◌, ◌⊎◌, inl, inr, ℕ, ◌+◌, Bool, true, false, List, [], ◌∷◌, length}
use Rattle.std.proofs.Common.{Option, Some, None, refl, sym, ap, ◌∙◌, subst, arith, ◌&&◌}
use Rattle.std.specs.Prelude.{option_and_then, slice_get}
use Rattle.pass_renewed_proof.specs.ir_model.Names.{intrinsic_number, is_local}
use Rattle.pass_renewed_proof.specs.ir_model.declared.instr.Instr.{Instr}
use Rattle.pass_renewed_proof.specs.ir_model.declared.module.Function.{Function}
use Rattle.pass_renewed_proof.specs.ir_model.declared.operand.Intrinsic.{Intrinsic}
use Rattle.pass_renewed_proof.specs.ir_model.declared.operand.Operand.{Operand}
use Rattle.pass_renewed_proof.specs.ir_paths.Paths.{entry_point}
use Rattle.pass_renewed_proof.specs.ir_paths.Windows.{IsInWindow, call_operand, call_result, end_block, instr_at, is_call_of}
use Rattle.pass_renewed_proof.specs.ir_paths.Windows.{is_suspend_of, points_where, suspend_of}
use Rattle.pass_renewed_proof.specs.ir_paths.declared.point.Point.{Point}
use Rattle.pass_renewed_proof.proofs.pass_kept_proof.Rules.{suspend_is_suspend, where_is}
use Rattle.pass_renewed_proof.specs.pass_kept_proof.Related.{coroutines}
use Rattle.pass_renewed_proof.specs.pass_kept_proof.SuspendRules.{IsCallAt}
use Rattle.pass_renewed_proof.proofs.Left.{left_closed}
use Rattle.pass_renewed_proof.specs.Left.{AtEnd, AtSuspend, AtSwitch, Behind, Between, IsLeftAt, IsLeftBy}
use Rattle.pass_renewed_proof.specs.SlotRules.{IsMarkerAt}
use Rattle.pass_renewed_proof.specs.rule_slots.Closed.{IsClosed}
use Rattle.pass_renewed_proof.specs.rule_windows.Sets.{IsAfterEnd}
use Rattle.run_hooks.proofs.Left.{sleepers_left, sleeps_at}
use Rattle.run_hooks.proofs.PlacedSteps.{left_at}
use Rattle.run_hooks.proofs.Points.{no_call_at_term, not_both, save_no_suspend, suspend_no_end}
use Rattle.run_hooks.proofs.Reached.{get_coroutine}
use Rattle.run_hooks.proofs.alive.Behind.{IsInOrder, IsLower}
use Rattle.run_hooks.proofs.alive.Parts.{AllIn, in_any, in_map}
use Rattle.run_hooks.specs.Away as away
use Rattle.run_hooks.specs.Away.{HasStop, IsBehind, IsClear, IsPair, IsPlacedState, KeepsAllPlaceRules, KeepsPlaceRules}
use Rattle.run_hooks.specs.Away.{point_in}
use Rattle.run_hooks.specs.Hooks.{Hooks}
use Rattle.run_hooks.specs.Left.{AreLast, HaveLeft, IsLastState}
use Rattle.run_hooks.specs.Reached.{AreReachedActivations, IsReachedActivation, IsReachedState}
use Rattle.run_hooks.specs.alive.Alive.{IsEnd, IsMarker, IsStart}
use Rattle.pass_renewed_proof.specs.run_source.State.{function_of, is_suspended}
use Rattle.pass_renewed_proof.specs.run_source.declared.state.Activation.{Activation}
use Rattle.pass_renewed_proof.specs.run_source.declared.state.Instance.{Instance}
use Rattle.pass_renewed_proof.specs.run_source.declared.state.Mode.{Mode}
use Rattle.pass_renewed_proof.specs.run_source.declared.state.State.{State}
use Rattle.pass_renewed_proof.specs.run_source_tables.Given.{Given}
use Rattle.pass_renewed_proof.specs.run_step.Step.{AtInstr, fetch}

-- ---- each activation with the number of those below it

in_both : (P Q R : ℕ → Activation → Type 0) (as' : List Activation)
    → ((d : ℕ) (a : Activation) → P d a → Q d a → R d a) → AllIn P as' → AllIn Q as' → AllIn R as'
in_both P Q R [] h k l = tt
in_both P Q R (a ∷ below) h k l = (h (length below) a k.0 l.0, in_both P Q R below h k.1 l.1)

in_less : (n : ℕ) (as' : List Activation) → length as' ≤ n → AllIn (λ d a. d < n) as'
in_less n [] le = tt
in_less n (a ∷ below) le = (omega (arith, le), in_less n below (omega (arith, le)))

pub left_in : (i : ℕ) (as' : List Activation) → HaveLeft i as'
    → AllIn (λ d a. a.instance ≡ Some i → a.has_left ≡ true) as'
left_in i [] h = tt
left_in i (a ∷ below) h = (h.0, left_in i below h.1)

last_in : (xs : List Instance) (as' : List Activation) → AreLast xs as'
    → AllIn (λ d a. (i : ℕ) → a.instance ≡ Some i → i < length xs) as'
last_in xs [] h = tt
last_in xs (a ∷ below) h = (h.0.own, last_in xs below h.2)

own_function : (g : Given) (xs : List Instance) (a : Activation) → IsReachedActivation g (coroutines xs) a → (i : ℕ)
    (x : Instance) → a.instance ≡ Some i → slice_get xs i ≡ Some x → x.coroutine ≡ a.func
own_function g xs a h i x ei ex =
    let both : Some x.coroutine ≡ Some a.func = sym (get_coroutine xs i x ex) ∙ h.own i ei in cc

reached_in : (g : Given) (xs : List Instance) (as' : List Activation) → AreReachedActivations g (coroutines xs) as'
    → AllIn (λ d a. (i : ℕ) (x : Instance) → a.instance ≡ Some i → slice_get xs i ≡ Some x → x.coroutine ≡ a.func) as'
reached_in g xs [] h = tt
reached_in g xs (a ∷ below) h = (own_function g xs a h.0, reached_in g xs below h.1)

-- ---- tokens

-- a suspend of a save has a token
pub token_there : (f : Function) (k s : Point) → suspend_of f k ≡ Some s → (i : Instr)
    → fetch f s.block s.at ≡ AtInstr i → call_operand i 0 ≡ Operand.None → ⊥
token_there f k s e i stands none = on (option_and_then call_result (instr_at f k)) e
  where
    last : (a b : Bool) → (a && b) ≡ true → b ≡ true
    last true b h = h
    last false b h = absurd (cc)

    on : (o : Option ℕ) → slice_get (points_where (is_suspend_of o) f) 0 ≡ Some s → ⊥
    on None h = let r = where_is (is_suspend_of None) f s h in absurd (cc)
    on (Some v) h =
        let r = where_is (is_suspend_of (Some v)) f s h in
        let both : AtInstr r.0 ≡ AtInstr i = sym r.1 ∙ stands in
        let same : r.0 ≡ i = cc in
        let own : is_local v (call_operand r.0 0) ≡ true = last (is_call_of Intrinsic.CoroSuspend r.0) _ r.2 in
        let no : false ≡ true = sym (ap (is_local v) (ap (λ (j : Instr). call_operand j 0) same ∙ none)) ∙ own in
        absurd (cc)

module _ (g : Hooks) (enters : g.enters ≡ false) (rules : KeepsAllPlaceRules g.given) (s : State)
    (reached : IsReachedState g.given s) (last : IsLastState s) (placed : IsPlacedState g s) where
  abbrev f : Function
  f = function_of g.given s

  abbrev p : Point
  p = point_in s.top

  abbrev r : KeepsPlaceRules g.given.code f
  r = rules.each s.top.func

  pub still : (from label : ℕ) → s.top.mode ≡ Mode.Entering from label → ⊥
  still from label e = let no : false ≡ true = sym enters ∙ (placed.top.entering from label e).may in absurd (cc)

  abbrev Less : ℕ → Activation → Type 0
  Less d a = d < length s.below

  abbrev Gone : ℕ → Activation → Type 0
  Gone d a = (i : ℕ) → s.top.instance ≡ Some i → a.instance ≡ Some i → a.has_left ≡ true

  abbrev Owns : ℕ → Activation → Type 0
  Owns d a = (i : ℕ) (x : Instance) → a.instance ≡ Some i → slice_get s.instances i ≡ Some x → x.coroutine ≡ a.func

  abbrev Rest : ℕ → Activation → Type 0
  Rest d a = Gone d a × Owns d a

  abbrev Within : ℕ → Activation → Type 0
  Within d a = (i : ℕ) → a.instance ≡ Some i → i < length s.instances

  abbrev Both : ℕ → Activation → Type 0
  Both d a = (d < length s.below) × ((i : ℕ) → a.instance ≡ Some i → i < length s.instances)

  pub order : IsInOrder s
  order = record {
    own = own_function g.given s.instances s.top reached.top;
    lower = in_both Less Rest (IsLower s) s.below (λ d a less rest. record { less = less; left = rest.0; own = rest.1 })
        (in_less (length s.below) s.below (omega arith))
        (in_both Gone Owns Rest s.below (λ d a left own. (left, own)) (left s.top.instance refl)
        (reached_in g.given s.instances s.below reached.below));
    awake = λ i x ei ex stays. sym (sleeps_at s.instances i x ex) ∙ last.0.awake i ei stays;
  }
    where
      left : (o : Option ℕ) → s.top.instance ≡ o → AllIn Gone s.below
      left None e = in_any Gone s.below (λ d a i ei ea. let no : None ≡ Some i = sym e ∙ ei in absurd (cc))
      left (Some j) e = in_map (λ d a. a.instance ≡ Some j → a.has_left ≡ true) Gone s.below
          (λ d a h i ei ea. let both : Some j ≡ Some i = sym e ∙ ei in
          let same : j ≡ i = cc in h (ea ∙ ap Some (sym same))) (left_in j s.below (last.1 j e))

  pub low : AllIn (λ d a. (d < length s.below) × ((i : ℕ) → a.instance ≡ Some i → i < length s.instances)) s.below
  low = in_both Less Within Both s.below (λ d a less own. (less, own)) (in_less (length s.below) s.below (omega arith))
      (last_in s.instances s.below last.2)

  pub all_left : (i : ℕ) (x : Instance) → slice_get s.instances i ≡ Some x → is_suspended x.status ≡ true
      → AllIn (λ d a. a.instance ≡ Some i → a.has_left ≡ true) (s.top ∷ s.below)
  all_left i x ex e = left_in i (s.top ∷ s.below)
      (sleepers_left s.instances i (sleeps_at s.instances i x ex ∙ e) (s.top ∷ s.below) last)

  -- ---- where an activation has left

  marker_call : (marker : Intrinsic) (v : ℕ) (q : Point) → IsMarkerAt f marker v q → IsCallAt marker f q
  marker_call marker v q m = record { instr = m.instr; stands = m.stands; is = m.is }

  -- no end stands where something else does
  not_at_end : (x : Intrinsic) → (intrinsic_number x ≡ intrinsic_number Intrinsic.CoroEnd → ⊥) → (q : Point)
      → IsCallAt x f q → (u : Point) → IsCallAt Intrinsic.CoroSuspend f u → q.block ≡ end_block f → q.at ≡ 0 → ⊥
  not_at_end x differ q c u suspend eb ea =
      let stop : HasStop g.given.code f u = r.stops u suspend in
      let same : entry_point f stop.default ≡ q =
      λ j. record { block = (stop.end ∙ sym eb) j; at = sym ea j } in
      not_both x Intrinsic.CoroEnd f q differ c (subst (IsCallAt Intrinsic.CoroEnd f) same stop.is_end)

  not_at_switch : (x : Intrinsic) (q : Point) → IsCallAt x f q → (u : Point) → IsCallAt Intrinsic.CoroSuspend f u
      → q ≡ record { block = u.block; at = u.at + 1 } → ⊥
  not_at_switch x q c u suspend e =
      let stop : HasStop g.given.code f u = r.stops u suspend in
      no_call_at_term x f (record { block = u.block; at = u.at + 1 }) _ stop.stands (subst (IsCallAt x f) e c)

  -- a marker where one may be that has left stands in a window or after the end
  shut_by : (marker : Intrinsic)
      → (intrinsic_number marker ≡ intrinsic_number Intrinsic.CoroEnd → ⊥)
      → (intrinsic_number marker ≡ intrinsic_number Intrinsic.CoroSuspend → ⊥) → (v : ℕ) (q : Point)
      → IsMarkerAt f marker v q → IsLeftAt f q → IsClosed f q
  shut_by marker no_end no_suspend v q m x =
      let c : IsCallAt marker f q = marker_call marker v q m in
      left_closed f x.suspend q x.is_call (λ d. not_both marker Intrinsic.CoroSuspend f q no_suspend c d)
      (λ d. not_at_switch marker q c (record { block = q.block; at = d.before }) d.is_suspend
      (λ j. record { block = q.block; at = d.next j }))
      (not_at_end marker no_end q c x.suspend x.is_call) x.by

  -- in a window too
  pub shut_in : (v : ℕ) (k u q : Point) → IsPair f k u → IsInWindow f k u q
      → IsMarkerAt f Intrinsic.LifetimeEnd v q → IsClosed f q
  shut_in v k u q pair w m = shut_by Intrinsic.LifetimeEnd (λ e. absurd (cc)) (λ e. absurd (cc)) v q m (record {
    suspend = u;
    is_call = suspend_is_suspend f k u pair.takes;
    by = Between k pair.is_save pair.takes w;
  })

  pub shut : (marker : Intrinsic) → IsMarker marker → (v : ℕ) → IsMarkerAt f marker v p → s.top.has_left ≡ true
      → IsClosed f p
  shut _ IsStart v m left = shut_by Intrinsic.LifetimeStart (λ e. absurd (cc))
      (λ e. absurd (cc)) v p m (left_at g s placed left)
  shut _ IsEnd v m left = shut_by Intrinsic.LifetimeEnd (λ e. absurd (cc)) (λ e. absurd (cc)) v p m
      (left_at g s placed left)

  -- one that saves hasn't left
  pub saves : ((q : Point) → IsAfterEnd f q → IsCallAt Intrinsic.CoroSave f q → ⊥) → IsCallAt Intrinsic.CoroSave f p
      → s.top.has_left ≡ false
  saves no_save c = on s.top.has_left refl
    where
      by : (u : Point) → IsCallAt Intrinsic.CoroSuspend f u → IsLeftBy f u p → ⊥
      by u d (Between k e t w) = r.no_save k u p (record { is_save = e; takes = t }) w c
      by u d (AtSuspend e) = save_no_suspend f p c (subst (IsCallAt Intrinsic.CoroSuspend f) (sym e) d)
      by u d (AtSwitch e) = not_at_switch Intrinsic.CoroSave p c u d e
      by u d (AtEnd eb ea) = not_at_end Intrinsic.CoroSave (λ e. absurd (cc)) p c u d eb ea
      by u d (Behind a) = no_save p a c

      on : (t : Bool) → s.top.has_left ≡ t → s.top.has_left ≡ false
      on true e = let x : IsLeftAt f p = left_at g s placed e in absurd (by x.suspend x.is_call x.by)
      on false e = e

  -- nor has one at a suspend without a token
  pub suspends : (c : IsCallAt Intrinsic.CoroSuspend f p) → call_operand c.instr 0 ≡ Operand.None
      → s.top.has_left ≡ false
  suspends c none = on s.top.has_left refl
    where
      by : away.IsAway f p → ⊥
      by (away.Waits w) = within w.within
        where
          within : (p ≡ w.suspend) ⊎ IsInWindow f w.save w.suspend p → ⊥
          within (inl e) = token_there f w.save p (w.pair.takes ∙ ap Some (sym e)) c.instr c.stands none
          within (inr v) = r.no_suspend_in w.save w.suspend p w.pair v c
      by (away.AtEnd u d eb ea e) = suspend_no_end f p c e
      by (away.Behind u d a) = r.no_suspend p a c

      behind : IsBehind f p → ⊥
      behind b = not_at_switch Intrinsic.CoroSuspend p c b.suspend b.is_suspend b.next

      both : away.IsAway f p ⊎ (IsBehind f p × IsClear f p) → ⊥
      both (inl a) = by a
      both (inr b) = behind b.0

      on : (t : Bool) → s.top.has_left ≡ t → s.top.has_left ≡ false
      on true e = absurd (both (placed.top.away e))
      on false e = e
