-- A step that goes to a label does so in both runs, also where it leaves a window.
use Rattle.std.proofs.Common.{◌≡◌, ℕ, zero, suc, Bool, true, false, List, [], ◌∷◌, length, Option}
use Rattle.std.proofs.Common.{Some, None, Result, Ok, refl, sym, ap, ◌∙◌, subst, if◌then◌else◌, ◌&&◌, ◌==◌, arith}
use Rattle.std.proofs.lemmas.Bool.{false≢true}
use Rattle.std.specs.List.{list_all}
use Rattle.std.specs.Prelude.{filter, option_and_then, option_map, slice_get}
use Rattle.pass_kept_proof.specs.ir_base.declared.cause.Cause.{Cause}
use Rattle.pass_kept_proof.specs.ir_model.Names.{function_at}
use Rattle.pass_kept_proof.specs.ir_model.declared.module.Module.{Module}
use Rattle.pass_kept_proof.specs.ir_paths.Paths.{entry_point}
use Rattle.pass_kept_proof.specs.ir_paths.Windows.{leaves}
use Rattle.pass_kept_proof.specs.ir_paths.declared.point.Point.{Point}
use Rattle.pass_kept_proof.specs.ir_paths.declared.point.Window.{Window}
use Rattle.pass_kept_proof.specs.run_memory.declared.block.MemoryBlock.{MemoryBlock}
use Rattle.pass_kept_proof.specs.run_source.Source.{branch_leaving, enter_block, go_to, is_save, left_windows, may_leave}
use Rattle.pass_kept_proof.specs.run_source.State.{function_of, is_suspended, numbered, own_facts, own_instance, with_left}
use Rattle.pass_kept_proof.specs.run_source.State.{with_status}
use Rattle.pass_kept_proof.specs.run_source.declared.state.Activation.{Activation}
use Rattle.pass_kept_proof.specs.run_source.declared.state.Instance.{Instance}
use Rattle.pass_kept_proof.specs.run_source.declared.state.Saved.{Saved}
use Rattle.pass_kept_proof.specs.run_source.declared.state.State.{State}
use Rattle.pass_kept_proof.specs.run_source.declared.state.Status.{Status}
use Rattle.pass_kept_proof.specs.run_source_tables.Given.{Given}
use Rattle.pass_kept_proof.specs.run_step.Results.{and_then, found, ok_if}
use Rattle.pass_renewed_proof.proofs.Branching.{branched_beside, entered_block}
use Rattle.pass_renewed_proof.proofs.Leaving.{left_window}
use Rattle.pass_renewed_proof.proofs.Owning.{own_beside}
use Rattle.pass_renewed_proof.specs.Beside.{AreBelow, AreOutdone, HasLeftSuspended, IsBeside}
use Rattle.pass_renewed_proof.specs.Beside.{IsStatusBeside, place_in}
use Rattle.pass_renewed_proof.specs.Branching.{AreWindowsOf, IsBranching, IsLeaving, MayComeBack, StaysInside}
use Rattle.pass_renewed_proof.specs.Found.{AreFound}
use Rattle.pass_renewed_proof.specs.Ledger.{Ledger}
use Rattle.pass_renewed_proof.specs.Renewed.{Flags, Roots}
use Rattle.pass_renewed_proof.specs.SlotRules.{KeepsSlots}

-- ---- lists

first_kept : {A : Type 0} (t : A → Bool) (xs : List A) (y : A) (ys : List A) → filter t xs ≡ y ∷ ys
    → (k : ℕ) × (slice_get xs k ≡ Some y) × (t y ≡ true)
first_kept t [] y ys e = absurd (cc)
first_kept t (x ∷ xs) y ys e = on (t x) refl e (λ h. first_kept t xs y ys h)
  where
    on : (b : Bool) → t x ≡ b → (if b then x ∷ filter t xs else filter t xs) ≡ y ∷ ys
        → (filter t xs ≡ y ∷ ys → (k : ℕ) × (slice_get xs k ≡ Some y) × (t y ≡ true))
        → (k : ℕ) × (slice_get (x ∷ xs) k ≡ Some y) × (t y ≡ true)
    on true et h again = let same : x ≡ y = cc in (0, ap Some same, ap t (sym same) ∙ et)
    on false et h again = let r = again h in (suc r.0, r.1, r.2)

none_kept : {A : Type 0} (t : A → Bool) (xs : List A) → filter t xs ≡ [] → (k : ℕ) (x : A)
    → slice_get xs k ≡ Some x → t x ≡ false
none_kept t [] e k x h = absurd (cc)
none_kept t (y ∷ xs) e k x h = on (t y) refl e k h (λ d j i. none_kept t xs d j x i)
  where
    on : (b : Bool) → t y ≡ b → (if b then y ∷ filter t xs else filter t xs) ≡ [] → (k : ℕ)
        → slice_get (y ∷ xs) k ≡ Some x
        → (filter t xs ≡ [] → (j : ℕ) → slice_get xs j ≡ Some x → t x ≡ false) → t x ≡ false
    on true et d k i again = absurd (cc)
    on false et d zero i again = let same : y ≡ x = cc in ap t (sym same) ∙ et
    on false et d (suc j) i again = again d j i

both : (a b : Bool) → (a && b) ≡ true → (a ≡ true) × (b ≡ true)
both true b e = (refl, e)
both false b e = absurd (false≢true e)

-- ---- what both have alike

module _ (m : Module) (flags : Flags) (roots : Roots) (l : Ledger) (memory : List MemoryBlock) where
  sleeps_alike : (x : Instance) (p q : Status) → IsStatusBeside m flags roots l memory x p q
      → is_suspended q ≡ is_suspended p
  sleeps_alike x Status.Running q h = ap is_suspended h
  sleeps_alike x (Status.Suspended u env) q h = ap is_suspended h.1
  sleeps_alike x Status.Finished q h = ap is_suspended h

  pub as_many : (xs : List Instance) (target : List MemoryBlock) (name : Option ℕ) (as' bs : List Activation)
      → AreBelow m flags roots l xs memory target name as' bs → length bs ≡ length as'
  as_many xs target name [] [] h = refl
  as_many xs target name [] (b ∷ bs) h = absurd h
  as_many xs target name (a ∷ as') [] h = absurd h
  as_many xs target name (a ∷ as') (b ∷ bs) h = ap suc (as_many xs target a.result as' bs h.2)

pub own_is : (s : State) (p : ℕ × Instance) → own_instance s ≡ Some p
    → (s.top.instance ≡ Some p.0) × (slice_get s.instances p.0 ≡ Some p.1)
own_is s p e = on s.top.instance refl e
  where
    at : (j : ℕ) → s.top.instance ≡ Some j → (o : Option Instance) → slice_get s.instances j ≡ o
        → option_map (λ x. (j, x)) o ≡ Some p → (s.top.instance ≡ Some p.0) × (slice_get s.instances p.0 ≡ Some p.1)
    at j own None there k = absurd (cc)
    at j own (Some x) there k = subst (λ (z : ℕ × Instance). (s.top.instance ≡ Some z.0) × (slice_get s.instances z.0
        ≡ Some z.1)) (pair_is k) (own, there)
      where
        pair_is : {q r : ℕ × Instance} → Some q ≡ Some r → q ≡ r
        pair_is h = cc

    on : (o : Option ℕ) → s.top.instance ≡ o → option_and_then (numbered s.instances) o ≡ Some p
        → (s.top.instance ≡ Some p.0) × (slice_get s.instances p.0 ≡ Some p.1)
    on None own k = absurd (cc)
    on (Some j) own k = at j own (slice_get s.instances j) refl k

-- ---- the step

module _ (flags : Flags) (roots : Roots) (g h : Given) (same : h.code ≡ g.code) (keeps : (func : ℕ)
    → KeepsSlots g.code (function_at g.code func) (flags func) (roots func)) (s t : State) (beside : IsBeside g.code
    flags roots s t) (label : ℕ) (branching : IsBranching g.code s.top label) (windows : AreWindowsOf (function_of g s)
    (own_facts g s).windows) (facts : (own_facts h t).windows ≡ (own_facts g s).windows) (outdone : AreOutdone
    s.instances s.top s.below) (asleep : HasLeftSuspended s.instances s.top) (after : State) (later : AreOutdone
    after.instances after.top s.below) where
  abbrev p : Point
  p = place_in s.top

  abbrev q : Point
  q = entry_point (function_of g s) label

  left_same : left_windows h t label ≡ left_windows g s label
  left_same = λ i. filter (leaves (record { block = (beside.top.is i).block; at = (beside.top.is i).at }) (entry_point
      (function_at (same i) (beside.top.is i).func) label)) (facts i)

  stays : left_windows g s label ≡ [] → StaysInside (function_of g s) p q
  stays none k u call takes =
      let r = windows.all k u call takes in
      (r.1, r.3, r.4, (windows.each r.0 r.1 r.2).2, none_kept (leaves p q) (own_facts g s).windows none r.0 r.1 r.2)

  leaving : (w : Window) (ws : List Window) → left_windows g s label ≡ w ∷ ws → IsLeaving (function_of g s) p q
  leaving w ws e =
      let r = first_kept (leaves p q) (own_facts g s).windows w ws e in
      let k = windows.each r.0 w r.1 in
      record { window = w; is_save = k.0; takes = k.1; facts = k.2; leaves = r.2 }

  saved_by : (o : Option Saved) (depth : ℕ) (save : Point) → is_save depth save o ≡ true
      → (z : Saved) × (o ≡ Some z) × (z.depth ≡ depth)
  saved_by None depth save e = absurd (false≢true e)
  saved_by (Some z) depth save e = (z, refl, same_number z.depth depth (both _ _ e).0)
    where
      same_number : (a b : ℕ) → (a == b) ≡ true → a ≡ b
      same_number a b e = grind arith

  abbrev Goes : List Window → Type 0
  Goes ws = branch_leaving g s label ws ≡ Ok after → (other : State) × (branch_leaving h t label ws ≡ Ok other)
      × IsBeside g.code flags roots after other

  same_ok : {x y : State} → ◌≡◌ {A = Result State Cause} (Ok x) (Ok y) → x ≡ y
  same_ok e = cc

  goes_out : (w : Window) (ws : List Window) → left_windows g s label ≡ w ∷ ws → (n : ℕ) (x : Instance)
      → own_instance s ≡ Some (n, x) → (b : Bool) → list_all (may_leave (length s.below) x) (w ∷ ws) ≡ b
      → ok_if b Cause.State (enter_block g (with_left (with_status s n x Status.Running) false) label) ≡ Ok after
      → (other : State) × (branch_leaving h t label (w ∷ ws) ≡ Ok other) × IsBeside g.code flags roots after other
  goes_out w ws e n x own false may k = absurd (cc)
  goes_out w ws e n x own true may k =
      let f : AreFound g.code flags roots beside.ledger s.world.memory (Some (n, x)) (own_instance t) = subst (λ o.
      AreFound g.code flags roots beside.ledger s.world.memory o (own_instance t)) own (own_beside g.code flags roots
      s t
      beside) in
      let y = f.0 in
      let ours = own_is s (n, x) own in
      let theirs = own_is t (n, y) f.1 in
      let first = both (may_leave (length s.below) x w) _ may in
      let parts = both (is_suspended x.status) _ first.0 in
      let z = saved_by x.last_save (length s.below) w.save parts.1 in
      let many : length t.below ≡ length s.below = as_many g.code flags roots beside.ledger s.world.memory s.instances
      t.world.memory s.top.result s.below t.below beside.below in
      let sleeps : is_suspended y.status ≡ is_suspended x.status = ap (λ (i : Instance). is_suspended i.status) f.2.is
      ∙ sleeps_alike g.code flags roots beside.ledger s.world.memory x x.status f.2.status f.2.statuses in
      let last : y.last_save ≡ x.last_save = ap (λ (i : Instance). i.last_save) f.2.is in
      let back : MayComeBack s.instances (length s.below) s.top n x = record {
        own = ours.0;
        there = ours.1;
        suspended = parts.0;
        saved = z.0;
        last = z.1;
        is_its = z.2;
      } in
      let is : enter_block g (with_left (with_status s n x Status.Running) false) label ≡ after = same_ok k in (
        enter_block h (with_left (with_status t n y Status.Running) false) label,
        (λ i. and_then (found Cause.State (f.1 i)) (λ (r : ℕ × Instance). ok_if (list_all (may_leave (length t.below)
            r.1) (w ∷ ws)) Cause.State (enter_block h (with_left (with_status t r.0 r.1 Status.Running) false) label)))
            ∙ ap (λ b. ok_if b Cause.State (enter_block h (with_left (with_status t n y Status.Running) false) label))
            ((λ i. list_all (λ (v : Window). sleeps i && is_save (many i) v.save (last i)) (w ∷ ws)) ∙ may),
        subst (λ (a : State). IsBeside g.code flags roots a (enter_block h (with_left (with_status t n y
            Status.Running) false) label)) is (subst (λ (m : Module). IsBeside g.code flags roots (entered_block g.code
            (with_left (with_status s n x Status.Running) false) label) (entered_block m (with_left (with_status t n y
            Status.Running) false) label)) (sym same) (left_window g.code flags roots keeps s t beside label branching
            (leaving w ws e) n x y back theirs.1 (subst (λ (a : State). AreOutdone a.instances a.top s.below) (sym is)
            later))),
      )

  goes_by : (ws : List Window) → left_windows g s label ≡ ws → Goes ws
  goes_by [] e k = (
    enter_block h t label,
    refl,
    subst (λ (a : State). IsBeside g.code flags roots a (enter_block h t label)) (same_ok k) (subst (λ (m : Module).
        IsBeside g.code flags roots (entered_block g.code s label) (entered_block m t label)) (sym same)
        (branched_beside g.code flags roots keeps s t beside label branching (λ left. stays e) outdone asleep)),
  )
  goes_by (w ∷ ws) e k = on (own_instance s) refl k
    where
      on : (o : Option (ℕ × Instance)) → own_instance s ≡ o
          → and_then (found Cause.State o) (λ (r : ℕ × Instance). ok_if (list_all (may_leave (length s.below) r.1) (w
          ∷ ws)) Cause.State (enter_block g (with_left (with_status s r.0 r.1 Status.Running) false) label)) ≡ Ok after
          → (other : State) × (branch_leaving h t label (w ∷ ws) ≡ Ok other) × IsBeside g.code flags roots after other
      on None own k = absurd (cc)
      on (Some r) own k = goes_out w ws e r.0 r.1 own (list_all (may_leave (length s.below) r.1) (w ∷ ws)) refl k

  pub gone_to : go_to g s label ≡ Ok after → (other : State) × (go_to h t label ≡ Ok other)
      × IsBeside g.code flags roots after other
  gone_to k = let r = goes_by (left_windows g s label) refl k in (
    r.0,
    ap (branch_leaving h t label) left_same ∙ r.1,
    r.2,
  )
