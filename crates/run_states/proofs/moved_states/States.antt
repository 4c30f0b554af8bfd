-- Instances, and what they open of frames, where functions have blocks on some of their edges.
use Rattle.std.proofs.Common.{◌≡◌, ℕ, zero, suc, ◌+◌, Bool, true, List, [], ◌∷◌, refl, ap, ◌∙◌}
use Rattle.std.proofs.lemmas.Option.{slice_get-map}
use Rattle.std.specs.List.{list_all}
use Rattle.std.specs.Prelude.{Some, None, Option, map, not, option_and_then, option_map, slice_get, ◌&&◌, ◌||◌, ◌==◌, if◌then◌else◌}
use Rattle.ir_laws.specs.run_memory.declared.block.MemoryBlock.{MemoryBlock}
use Rattle.ir_laws.specs.run_memory.declared.pointer.Pointer.{Pointer}
use Rattle.ir_laws.specs.run_memory.declared.pointer.Value.{Value}
use Rattle.ir_laws.specs.run_source.Indexes.{last_from, or_else}
use Rattle.ir_laws.specs.run_source.Source.{is_save, may_leave}
use Rattle.ir_laws.specs.run_source.State.{began_at, instance_at, is_finished, is_suspended, last_where, numbered, own_instance, with_instance}
use Rattle.ir_laws.specs.run_source.declared.state.Instance.{Instance}
use Rattle.ir_laws.specs.run_source.declared.state.Saved.{Saved}
use Rattle.ir_laws.specs.run_source.declared.state.State.{State}
use Rattle.ir_laws.specs.run_source.declared.state.Status.{Status}
use Rattle.ir_laws.proofs.paths.expanded.Apart.{same_moved}
use Rattle.ir_laws.proofs.facts.Lists.{map_set}
use Rattle.run_framed.specs.Framed.{FramedGiven, covers, frame_rights, is_open, is_open_byte, is_over, judge_of, meets_in}
use Rattle.ir_laws.specs.ir_model.Names.{function_at}
use Rattle.ir_laws.specs.ir_model.declared.module.Function.{Function}
use Rattle.ir_laws.specs.ir_model.declared.module.Module.{Module}
use Rattle.ir_laws.specs.ir_paths.declared.point.Point.{Point}
use Rattle.ir_laws.specs.ir_paths.declared.point.Window.{Window}
use Rattle.run_states.specs.moved_states.MovedState.{moved_instance, moved_save, moved_state, moved_status}
use Rattle.run_states.specs.moved_states.Moving.{Moving, moved_point}

module _ (mv : Moving) (m : Module) where
  abbrev now : Instance → Instance
  now x = moved_instance mv m x

  abbrev pub with_number : Option (ℕ × Instance) → Option (ℕ × Instance)
  with_number o = option_map (λ (y : ℕ × Instance). (y.0, moved_instance mv m y.1)) o

  numbered_moved : (xs : List Instance) (i : ℕ) → numbered (map now xs) i ≡ with_number (numbered xs i)
  numbered_moved xs i = ap (option_map (λ (x : Instance). (i, x))) (slice_get-map now xs i) ∙ on (slice_get xs i)
    where
      on : (o : Option Instance) → option_map (λ (x : Instance). (i, x)) (option_map (moved_instance mv m) o) ≡ with_number (option_map (λ (x : Instance). (i, x)) o)
      on None = refl
      on (Some x) = refl

  found_by : (xs : List Instance) (o : Option ℕ) → option_and_then (numbered (map (moved_instance mv m) xs)) o ≡ with_number (option_and_then (numbered xs) o)
  found_by xs None = refl
  found_by xs (Some i) = numbered_moved xs i

  pub own_moved : (s : State) → own_instance (moved_state mv m s) ≡ with_number (own_instance s)
  own_moved s = found_by s.instances s.top.instance

  last_moved : (test now_test : Instance → Bool) → ((x : Instance) → now_test (moved_instance mv m x) ≡ test x) → (i : ℕ) (xs : List Instance) → last_from now_test i (map now xs) ≡ last_from test i xs
  last_moved test now_test h i [] = refl
  last_moved test now_test h i (x ∷ xs) =
      let rest = last_moved test now_test h (suc i) xs in
      λ j. or_else (rest j) (if h x j then Some i else None)

  -- the last instance that passes a test
  pub last_found : (test now_test : Instance → Bool) → ((x : Instance) → now_test (moved_instance mv m x) ≡ test x) → (xs : List Instance) → last_where now_test (map (moved_instance mv m) xs) ≡ with_number (last_where test xs)
  last_found test now_test h xs = ap (option_and_then (numbered (map now xs))) (last_moved test now_test h 0 xs) ∙ found_by xs (last_from test 0 xs)

  pub found_moved : (xs : List Instance) (v : Value) → instance_at (map (moved_instance mv m) xs) v ≡ with_number (instance_at xs v)
  found_moved xs (Value.Ptr (Pointer.At block offset)) = last_found (began_at block offset.bits) (began_at block offset.bits) (λ x. refl) xs
  found_moved xs (Value.Ptr Pointer.Null) = refl
  found_moved xs (Value.Ptr (Pointer.Func f)) = refl
  found_moved xs Value.Poison = refl
  found_moved xs (Value.Int x) = refl

  pub with_instance_moved : (s : State) (i : ℕ) (x : Instance) → with_instance (moved_state mv m s) i (moved_instance mv m x) ≡ moved_state mv m (with_instance s i x)
  with_instance_moved s i x = ap (λ (xs : List Instance). record (moved_state mv m s) { instances = xs }) (map_set now s.instances i x)

  -- ---- status

  pub suspended_moved : (f : Function) (status : Status) → is_suspended (moved_status mv f status) ≡ is_suspended status
  suspended_moved f Status.Running = refl
  suspended_moved f (Status.Suspended p values) = refl
  suspended_moved f Status.Finished = refl

  pub finished_moved : (f : Function) (status : Status) → is_finished (moved_status mv f status) ≡ is_finished status
  finished_moved f Status.Running = refl
  finished_moved f (Status.Suspended p values) = refl
  finished_moved f Status.Finished = refl

  pub over_moved : (x : Instance) → is_over (moved_instance mv m x) ≡ is_over x
  over_moved x = ap (λ (b : Bool). b || x.freed) (finished_moved (function_at m x.coroutine) x.status)

  -- ---- rights of access

  module _ (g k : FramedGiven) (same : k.layouts ≡ g.layouts) where
    judge_moved : (xs : List Instance) (b at : ℕ) → judge_of k (map (moved_instance mv m) xs) b at ≡ with_number (judge_of g xs b at)
    judge_moved xs b at = last_found (covers g b at) (covers k b at) (λ x. ap (λ layouts. covers (record g { layouts = layouts }) b at x) same) xs

    byte_moved : (at : ℕ) (o : Option (ℕ × Instance)) → is_open_byte k at (with_number o) ≡ is_open_byte g at o
    byte_moved at None = refl
    byte_moved at (Some (i, x)) = ap (λ layouts. is_open_byte (record g { layouts = layouts }) at (Some (i, x))) same

    open_moved : (xs : List Instance) (b at n : ℕ) → is_open k (map (moved_instance mv m) xs) b at n ≡ is_open g xs b at n
    open_moved xs b at zero = refl
    open_moved xs b at (suc n) =
        let first = ap (is_open_byte k at) (judge_moved xs b at) ∙ byte_moved at (judge_of g xs b at) in
        let rest = open_moved xs b (at + 1) n in
        λ i. first i && rest i

    meets_moved : (x : MemoryBlock) (at align : ℕ) (o : Option (ℕ × Instance)) → meets_in k x at align (with_number o) ≡ meets_in g x at align o
    meets_moved x at align None = refl
    meets_moved x at align (Some (i, y)) = ap (λ layouts. meets_in (record g { layouts = layouts }) x at align (Some (i, y))) same

    pub rights_moved : (xs : List Instance) → frame_rights k (map (moved_instance mv m) xs) ≡ frame_rights g xs
    rights_moved xs =
        let closed : (b at n : ℕ) → is_open k (map (moved_instance mv m) xs) b at n ≡ is_open g xs b at n = open_moved xs in
        let aligned : (b : ℕ) (x : MemoryBlock) (at align : ℕ) → meets_in k x at align (judge_of k (map (moved_instance mv m) xs) b at) ≡ meets_in g x at align (judge_of g xs b at) = λ b x at align. ap (meets_in k x at align) (judge_moved xs b at) ∙ meets_moved x at align (judge_of g xs b at) in
        λ i. record {
          is_closed = λ b x at n. not (closed b at n i);
          is_aligned = λ b x at align. aligned b x at align i;
          is_comparable = λ b x at. true;
        }

  -- ---- windows that are left

  module _ (f : Function) (spots : (j k : ℕ) → mv.spot f j ≡ mv.spot f k → j ≡ k) where
    points_apart : (p q : Point) → moved_point mv f p ≡ moved_point mv f q → p ≡ q
    points_apart p q e =
        let b = spots p.block q.block (ap (λ (x : Point). x.block) e) in
        let a = ap (λ (x : Point). x.at) e in
        λ i. record { block = b i; at = a i }

    save_moved : (depth : ℕ) (a : Point) (o : Option Saved) → is_save depth (moved_point mv f a) (option_map (moved_save mv f) o) ≡ is_save depth a o
    save_moved depth a None = refl
    save_moved depth a (Some x) = ap (λ (t : Bool). (x.depth == depth) && t) (same_moved (moved_point mv f) (moved_point mv f) x.save a (points_apart x.save a) refl)

  abbrev saves : List Window → List Point
  saves ws = map (λ w. w.save) ws

  pub may_leave_moved : (f : Function) → ((j k : ℕ) → mv.spot f j ≡ mv.spot f k → j ≡ k) → (depth : ℕ) (x : Instance) → function_at m x.coroutine ≡ f → (ws vs : List Window) → saves vs ≡ map (moved_point mv f) (saves ws) → list_all (may_leave depth (moved_instance mv m x)) vs ≡ list_all (may_leave depth x) ws
  may_leave_moved f spots depth x e [] [] all = refl
  may_leave_moved f spots depth x e [] (v ∷ vs) all = absurd (cc)
  may_leave_moved f spots depth x e (w ∷ ws) [] all = absurd (cc)
  may_leave_moved f spots depth x e (w ∷ ws) (v ∷ vs) all =
      let first : v.save ≡ moved_point mv f w.save = cc in
      let others : saves vs ≡ map (moved_point mv f) (saves ws) = cc in
      let rest = may_leave_moved f spots depth x e ws vs others in
      let status = suspended_moved (function_at m x.coroutine) x.status in
      let last = (λ i. is_save depth (first i) (option_map (moved_save mv (e i)) x.last_save)) ∙ save_moved f spots depth w.save x.last_save in
      λ i. (status i && last i) && rest i
