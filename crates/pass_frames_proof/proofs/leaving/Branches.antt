-- A branch leaves the same windows in both runs, or none: their instance runs again, and the activation goes on.
use Rattle.std.proofs.Common.{◌≡◌, ◌&&◌, ◌==◌, ◌∷◌, ◌∙◌, [], Bool, List, None, Ok, Option, Some, ap, false, inl, inr, length, refl, subst, suc, sym, true, ℕ}
use Rattle.std.proofs.lemmas.Bool.{and_parts}
use Rattle.std.specs.List.{list_all}
use Rattle.std.specs.Prelude.{option_and_then, option_map, slice_get, slice_set}
use Rattle.pass_frames_steps.specs.flow_solver.Paths.{IsListed}
use Rattle.pass_frames_steps.specs.ir_base.declared.cause.Cause.{Cause}
use Rattle.pass_frames_steps.proofs.ir_laws.paths.counted.PartFacts.{all_listed}
use Rattle.pass_frames_steps.proofs.ir_paths.Search.{same_point-itself, same_point-same}
use Rattle.pass_frames_steps.specs.ir_paths.Paths.{same_point}
use Rattle.pass_frames_steps.specs.ir_paths.declared.point.Point.{Point}
use Rattle.pass_frames_steps.specs.ir_paths.declared.point.Window.{Window}
use Rattle.pass_frames_steps.proofs.asking.Found.{own_found}
use Rattle.pass_frames_proof.proofs.leaving.Left.{left_by, related_left}
use Rattle.pass_frames_steps.proofs.moved.Instances.{one_related, set_same}
use Rattle.pass_frames_steps.specs.Asking.{AreFound, IsFoundBeside}
use Rattle.pass_frames_steps.specs.Framings.{IsFraming}
use Rattle.pass_frames_steps.specs.Leaving.{IsBranch, LeavesWindows, StaysInside}
use Rattle.pass_frames_steps.specs.Places.{own_place}
use Rattle.pass_frames_steps.specs.Related.{AreBelow, AreBuiltOf, AreInstances, Building, IsStatus, is_coroutine, moved_save, own_place_of}
use Rattle.pass_frames_steps.specs.pass_renewed_proof.Renewed.{RenewedGiven}
use Rattle.pass_frames_steps.proofs.run_access_worked.Ended.{rights_same}
use Rattle.pass_frames_steps.specs.run_framed.Framed.{frame_rights}
use Rattle.pass_frames_steps.proofs.run_laws.memory.Written.{same_some}
use Rattle.pass_frames_steps.specs.run_laws.changed.Changed.{Each}
use Rattle.pass_frames_steps.specs.run_laws.memory.Pointers.{Home}
use Rattle.pass_frames_steps.specs.run_source.Source.{branch_leaving, enter_block, go_to, is_save, leave, left_windows, may_leave}
use Rattle.pass_frames_steps.specs.run_source.State.{is_suspended, numbered, own_instance, with_left, with_status}
use Rattle.pass_frames_steps.specs.run_source.declared.state.Activation.{Activation}
use Rattle.pass_frames_steps.specs.run_source.declared.state.Instance.{Instance}
use Rattle.pass_frames_steps.specs.run_source.declared.state.Saved.{Saved}
use Rattle.pass_frames_steps.specs.run_source.declared.state.State.{State}
use Rattle.pass_frames_steps.specs.run_source.declared.state.Status.{Status}
use Rattle.pass_frames_steps.specs.run_source_tables.Given.{Given}
use Rattle.pass_frames_steps.specs.run_step.Results.{and_then, found, ok_if}
use Rattle.pass_frames_steps.specs.run_step.Values.{Env}
use Rattle.pass_frames_steps.specs.run_step.declared.world.World.{World}

-- a state in which some instances are others, and the activation on top has left or not
abbrev pub changed_by : State → List Instance → Bool → State
changed_by s xs left = record s { instances = xs; top = left_by left s.top }

abbrev pub with_values : State → World → Env → State
with_values u w env = record u { world = w; top = record u.top { values = env } }

-- ---- what a branch does

-- where the framed run is at its terminator
pub record Branches (b : Building) (g : RenewedGiven) (s t u : State) (label : ℕ) : Type 0 where
  pub xs : List Instance
  pub ys : List Instance
  pub left : Bool
  pub source : go_to g.given s label ≡ Ok (enter_block g.given (changed_by s xs left) label)
  -- the world and the values don't matter
  pub at_values : (w : World) (env : Env) → go_to b.given.given (with_values u w env) label
      ≡ Ok (enter_block b.given.given (changed_by (with_values u w env) ys left) label)
  pub frames : frame_rights b.given ys ≡ frame_rights b.given t.instances
  pub turned : (w v : World) (a c : Activation) → AreBuiltOf b (record s { world = w; top = a })
      (record t { world = v; top = c })
      → AreBuiltOf b (record s { world = w; instances = xs; top = left_by left a })
      (record t { world = v; instances = ys; top = left_by left c })

-- ---- no window is left

stays_by : (g : Given) (s : State) (label : ℕ) → left_windows g s label ≡ [] → go_to g s label
    ≡ Ok (enter_block g s label)
stays_by g s label none = ap (branch_leaving g s label) none

-- ---- some are left

-- what such a branch finds: a suspended instance, whose last save is that of each window
record IsLeft (s : State) (windows : List Window) : Type 0 where
  number : ℕ
  instance : Instance
  own : own_instance s ≡ Some (number, instance)
  may : list_all (may_leave (length s.below) instance) windows ≡ true

left_of : (g : Given) (s after : State) (label : ℕ) (windows : List Window) → leave g s label windows ≡ Ok after
    → IsLeft s windows
left_of g s after label windows e = on (own_instance s) refl e
  where
    on : (o : Option (ℕ × Instance)) → own_instance s ≡ o
        → and_then (found Cause.State o) (λ (i, x).
        ok_if (list_all (may_leave (length s.below) x) windows) Cause.State
        (enter_block g (with_left (with_status s i x Status.Running) false) label)) ≡ Ok after
        → IsLeft s windows
    on None own k = absurd (cc)
    on (Some p) own k = record {
      number = p.0;
      instance = p.1;
      own = own;
      may = sure (list_all (may_leave (length s.below) p.1) windows) k;
    }
      where
        sure : (c : Bool)
            → ok_if c Cause.State (enter_block g (with_left (with_status s p.0 p.1 Status.Running) false) label)
            ≡ Ok after → c ≡ true
        sure true k = refl
        sure false k = absurd (cc)

leaves_by : (g : Given) (s : State) (label : ℕ) (w : Window) (ws : List Window) → left_windows g s label ≡ w ∷ ws
    → (i : ℕ) (x : Instance) → own_instance s ≡ Some (i, x)
    → list_all (may_leave (length s.below) x) (w ∷ ws) ≡ true
    → go_to g s label ≡ Ok (enter_block g (with_left (with_status s i x Status.Running) false) label)
leaves_by g s label w ws windows i x own may =
    ap (branch_leaving g s label) windows
    ∙ ap (λ (o : Option (ℕ × Instance)). and_then (found Cause.State o) (λ (i, x).
    ok_if (list_all (may_leave (length s.below) x) (w ∷ ws)) Cause.State
    (enter_block g (with_left (with_status s i x Status.Running) false) label))) own
    ∙ ap (λ (c : Bool). ok_if c Cause.State (enter_block g (with_left (with_status s i x Status.Running) false) label))
    may

-- ---- of the framed run

below_many : (b : Building) (homes : List Home) (hides : ℕ → Bool) (t : State) (ps qs : List Activation)
    → AreBelow b homes hides t ps qs → length qs ≡ length ps
below_many b homes hides t [] [] h = refl
below_many b homes hides t [] (q ∷ qs) h = absurd h
below_many b homes hides t (p ∷ ps) [] h = absurd h
below_many b homes hides t (p ∷ ps) (q ∷ qs) h = ap suc (below_many b homes hides t ps qs h.1)

-- the save of the one is that of the other at its place
saves_alike : (b : Building) (func depth : ℕ) (save other : Point) (o : Option Saved) → other ≡ own_place_of b func save
    → is_save depth save o ≡ true → is_save depth other (option_map (moved_save b func) o) ≡ true
saves_alike b func depth save other None e h = absurd (cc)
saves_alike b func depth save other (Some z) e h =
    let p = and_parts (z.depth == depth) (same_point z.save save) h in
    let same : z.save ≡ save = same_point-same z.save save p.1 in
    (λ j. p.0 j && same_point (own_place_of b func (same j)) (e j))
    ∙ same_point-itself (own_place_of b func save)

module _ (b : Building) (g : RenewedGiven) (s t u : State) (r : AreBuiltOf b s t)
    (framings : (func : ℕ) → is_coroutine b func ≡ true → IsFraming (b.framing func)) (label : ℕ)
    (same : (u.instances ≡ t.instances) × (u.top.instance ≡ t.top.instance) × (u.below ≡ t.below))
    (left : u.top.has_left ≡ t.top.has_left) where
  inside : StaysInside b g s u label → Branches b g s t u label
  inside h = record {
    xs = s.instances;
    ys = u.instances;
    left = s.top.has_left;
    source = stays_by g.given s label h.source;
    at_values = λ w env.
        stays_by b.given.given (with_values u w env) label h.target
        ∙ ap (λ (f : Bool). Ok (enter_block b.given.given (changed_by (with_values u w env) u.instances f) label))
        (left ∙ r.top.has_left);
    frames = ap (frame_rights b.given) same.0;
    turned = λ w v a c k.
        subst (λ (ys : List Instance). AreBuiltOf b (record s { world = w; top = left_by s.top.has_left a })
        (record t { world = v; instances = ys; top = left_by s.top.has_left c })) (sym same.0)
        (related_left b (record s { world = w; top = a }) (record t { world = v; top = c }) s.top.has_left k);
  }

  -- ---- some are left

  module _ (h : LeavesWindows b g s u label) where
    z : IsLeft s (h.window ∷ h.more)
    z = left_of g.given s h.after label (h.window ∷ h.more)
        (sym (ap (branch_leaving g.given s label) h.source) ∙ h.does)

    abbrev x : Instance
    x = z.instance

    beside : IsFoundBeside b r.homes s t z.number x (own_instance t)
    beside = subst (λ (o : Option (ℕ × Instance)). AreFound b r.homes s t o (own_instance t)) z.own (own_found b s t r)

    abbrev y : Instance
    y = beside.beside

    own_there : own_instance u ≡ Some (z.number, y)
    own_there =
        (λ j. option_and_then (numbered (same.0 j)) (same.1 j)) ∙ beside.is

    own_number : s.top.instance ≡ Some z.number
    own_number = on s.top.instance refl z.own
      where
        on : (o : Option ℕ) → s.top.instance ≡ o → option_and_then (numbered s.instances) o ≡ Some (z.number, x)
            → s.top.instance ≡ Some z.number
        on None e k = absurd (cc)
        on (Some i) e k = e ∙ ap Some (by (slice_get s.instances i) k)
          where
            by : (q : Option Instance)
                → option_map {U = ℕ × Instance} (λ (v : Instance). (i, v)) q ≡ Some (z.number, x) → i ≡ z.number
            by None k = absurd (cc)
            by (Some v) k = ap (λ (o : ℕ × Instance). o.0) (same_some (i, v) (z.number, x) k)

    func_is : x.coroutine ≡ s.top.func
    func_is = h.coroutine z.number x own_number beside.source

    -- the first one of the windows shows that it is suspended
    suspended : is_suspended x.status ≡ true
    suspended =
        (and_parts (is_suspended x.status) (is_save (length s.below) h.window.save x.last_save)
        (all_listed (may_leave (length s.below) x) (h.window ∷ h.more) z.may h.window (inl refl))).0

    suspended_too : is_suspended y.status ≡ true
    suspended_too = on x.status suspended beside.instances.status
      where
        on : (q : Status) → is_suspended q ≡ true → IsStatus b r.homes t x y q y.status → is_suspended y.status ≡ true
        on Status.Running e k = absurd (cc)
        on Status.Finished e k = absurd (cc)
        on (Status.Suspended p env) e k = ap is_suspended k.2

    may_one : (w : Window)
        → ((v : Window) × IsListed v (h.window ∷ h.more) × (w.save ≡ own_place (b.framing s.top.func) v.save))
        → may_leave (length u.below) y w ≡ true
    may_one w k =
        let saved : is_save (length s.below) k.0.save x.last_save ≡ true =
        (and_parts (is_suspended x.status) (is_save (length s.below) k.0.save x.last_save)
        (all_listed (may_leave (length s.below) x) (h.window ∷ h.more) z.may k.0 k.1)).1 in
        (λ j. suspended_too j && is_save (depth j) w.save (beside.instances.last_save j))
        ∙ saves_alike b x.coroutine (length s.below) k.0.save w.save x.last_save
        (k.2 ∙ ap (λ (f : ℕ). own_place (b.framing f) k.0.save) (sym func_is)) saved
      where
        depth : length u.below ≡ length s.below
        depth = ap length same.2 ∙ below_many b r.homes r.hides t s.below t.below r.below

    may_all : (ws : List Window)
        → Each (λ (w : Window). (v : Window) × IsListed v (h.window ∷ h.more)
        × (w.save ≡ own_place (b.framing s.top.func) v.save)) ws
        → list_all (may_leave (length u.below) y) ws ≡ true
    may_all [] e = refl
    may_all (w ∷ ws) e = λ j. may_one w e.0 j && may_all ws e.1 j

    abbrev p : Instance
    p = record x { status = Status.Running }

    abbrev q : Instance
    q = record y { status = Status.Running }

    running_beside : (w v : World) (a c : Activation)
        → (k : AreBuiltOf b (record s { world = w; top = a }) (record t { world = v; top = c }))
        → AreInstances b k.homes (record t { world = v; instances = slice_set t.instances z.number q; top = c }) p q
    running_beside w v a c k =
        let m = k.instances z.number x y beside.source beside.target in
        record {
          coroutine = m.coroutine;
          is_coroutine = m.is_coroutine;
          block = m.block;
          start = m.start;
          status = refl;
          last_save = m.last_save;
          released = m.released;
          freed = m.freed;
          slots = λ slot e.
              let d = m.slots slot e in
              record { position = d.position; position_is = d.position_is; home = d.home };
          no_slots = m.no_slots;
        }

    outside : Branches b g s t u label
    outside = record {
      xs = slice_set s.instances z.number p;
      ys = slice_set t.instances z.number q;
      left = false;
      source = leaves_by g.given s label h.window h.more h.source z.number x z.own z.may;
      at_values = λ w env.
          leaves_by b.given.given (with_values u w env) label h.other h.others h.target z.number y own_there
          (may_all (h.other ∷ h.others) h.saves)
          ∙ ap (λ (is : List Instance). Ok (enter_block b.given.given (changed_by (with_values u w env)
          (slice_set is z.number q) false) label)) same.0;
      frames = rights_same b.given t.instances (slice_set t.instances z.number q)
          (set_same b s t r framings z.number x y p q beside.source beside.target
          (record { coroutine = refl; block = refl; start = refl }));
      turned = λ w v a c k.
          related_left b (record s { world = w; instances = slice_set s.instances z.number p; top = a })
          (record t { world = v; instances = slice_set t.instances z.number q; top = c }) false
          (one_related b (record s { world = w; top = a }) (record t { world = v; top = c }) k framings z.number x y p q
          beside.source beside.target (record { coroutine = refl; block = refl; start = refl })
          (running_beside w v a c k));
    }

  pub branches : IsBranch b g s u label → Branches b g s t u label
  branches (inl h) = inside h
  branches (inr h) = outside h

-- ---- where the instance is Running no window may be left

pub none_left : (g : Given) (s after : State) (label number : ℕ) (own_one : Instance) → s.top.instance ≡ Some number
    → slice_get s.instances number ≡ Some own_one → own_one.status ≡ Status.Running → go_to g s label ≡ Ok after
    → left_windows g s label ≡ []
none_left g s after label number own_one own there running does = on (left_windows g s label) refl
  where
    own_is : own_instance s ≡ Some (number, own_one)
    own_is =
        ap (option_and_then (numbered s.instances)) own
        ∙ ap (option_map {U = ℕ × Instance} (λ (v : Instance). (number, v))) there

    on : (ws : List Window) → left_windows g s label ≡ ws → left_windows g s label ≡ []
    on [] e = e
    on (w ∷ ws) e =
        let found_left = left_of g s after label (w ∷ ws) (sym (ap (branch_leaving g s label) e) ∙ does) in
        let k = found_left.instance in
        let same = same_some (found_left.number, k) (number, own_one) (sym found_left.own ∙ own_is) in
        let suspended : is_suspended k.status ≡ true =
        (and_parts (is_suspended k.status) (is_save (length s.below) w.save k.last_save)
        (and_parts _ _ found_left.may).0).0 in
        let no : true ≡ false =
        sym suspended ∙ ap (λ (v : ℕ × Instance). is_suspended v.1.status) same ∙ ap is_suspended running in
        absurd (cc)
