-- Each step of an activation that is about to free its instance leads on to the deallocation, or does that.
use Rattle.std.proofs.Common.{◌≡◌, ◌⊎◌, inl, inr, ◌+◌, ◌<◌, ℕ, zero, suc, Bool, true, false, not, List, [], ◌∷◌, length, Result, Ok, Err, refl, sym, ap, ◌∙◌, subst, arith, if◌then◌else◌, ◌&&◌, ◌||◌, ◌==◌}
use Rattle.std.specs.List.{list_all}
use Rattle.std.specs.Prelude.{None, Option, Some, pos, slice_get, slice_set}
use Rattle.elide_shape.specs.Frees.{is_null_test}
use Rattle.pass_proofs.specs.ir_calls.Calls.{is_null}
use Rattle.pass_elide_proof.proofs.Begins.{no_both}
use Rattle.pass_elide_proof.proofs.Changing.{new_there}
use Rattle.pass_elide_proof.proofs.Found.{last_is_where}
use Rattle.pass_elide_proof.proofs.FreedAlone.{deallocates, first_value}
use Rattle.pass_elide_proof.proofs.LastFound.{began_in}
use Rattle.pass_elide_proof.proofs.ReleasingActs.{DoesCalmly, IsPlain, does_calmly}
use Rattle.pass_elide_proof.proofs.Saves.{own_number}
use Rattle.pass_elide_proof.proofs.Sized.{other_result, other_value}
use Rattle.pass_elide_proof.specs.Edges.{phis_at}
use Rattle.pass_elide_proof.specs.Elision.{Elision, framed, function_in}
use Rattle.pass_elide_proof.specs.Releasing.{Branches, Frees, IsAnswered, IsFreedSoon, IsOrPoison, IsReleasing, Jumps, NullTest, Passes, Spares, Tests, is_calm}
use Rattle.pass_proofs.proofs.ir_laws.facts.Truth.{both_true, equal_numbers, itself}
use Rattle.pass_proofs.proofs.run_laws.memory.Written.{same_some}
use Rattle.pass_proofs.specs.ir_base.declared.cause.Cause.{Cause}
use Rattle.pass_proofs.specs.ir_base.declared.ops.Pred.{Pred}
use Rattle.pass_proofs.specs.ir_base.declared.outcome.Outcome.{Outcome}
use Rattle.pass_proofs.specs.ir_model.Names.{is_local, position_of}
use Rattle.pass_proofs.specs.ir_model.Ty.{Ty, ptr}
use Rattle.pass_proofs.specs.ir_model.declared.instr.Instr.{Instr}
use Rattle.pass_proofs.specs.ir_model.declared.instr.Phi.{Phi}
use Rattle.pass_proofs.specs.ir_model.declared.module.Function.{Function}
use Rattle.pass_proofs.specs.ir_model.declared.operand.Arg.{Arg}
use Rattle.pass_proofs.specs.ir_model.declared.operand.Callee.{Callee}
use Rattle.pass_proofs.specs.ir_model.declared.operand.Intrinsic.{Intrinsic}
use Rattle.pass_proofs.specs.ir_model.declared.operand.Operand.{Operand}
use Rattle.pass_proofs.specs.ir_parts.Contents.{result_of}
use Rattle.pass_proofs.specs.ir_paths.declared.point.Window.{Window}
use Rattle.pass_proofs.specs.run_framed.Framed.{FramedGiven, framed_act, framed_advance, framed_context, framed_next, framed_step}
use Rattle.pass_proofs.specs.run_memory.Memory.{check, is_live, is_owned, is_unkilled, killed, may_compare_at}
use Rattle.pass_proofs.specs.run_memory.declared.block.Kind.{Kind}
use Rattle.pass_proofs.specs.run_memory.declared.block.MemoryBlock.{MemoryBlock}
use Rattle.pass_proofs.specs.run_memory.declared.pointer.Offset.{Offset}
use Rattle.pass_proofs.specs.run_memory.declared.pointer.Pointer.{Pointer}
use Rattle.pass_proofs.specs.run_memory.declared.pointer.Value.{Value}
use Rattle.pass_proofs.specs.run_source.Source.{branch_leaving, deallocate, enter_block, if_let_go, leave, left_windows, let_go, may_be_freed, may_leave}
use Rattle.pass_proofs.specs.run_source.State.{began_at, frame_address_of, gives, instance_at, next, or_undefined, own_frame, own_instance, settled, with_left, with_memory, with_status, work_of}
use Rattle.pass_proofs.specs.run_source.declared.state.Activation.{Activation}
use Rattle.pass_proofs.specs.run_source.declared.state.Instance.{Instance}
use Rattle.pass_proofs.specs.run_source.declared.state.State.{State}
use Rattle.pass_proofs.specs.run_source.declared.state.Status.{Status}
use Rattle.pass_proofs.specs.run_step.Results.{and_then, found, ok_if}
use Rattle.pass_proofs.specs.run_step.Step.{Action, AtInstr, Coro, Deallocate, Done, Enter, Fetched, GoTo, NewSlot, Return, Stuck, branch, by_pred, compared, deallocated, done, fetch, instr_action, label_of, phi_values, set_value, value_at, values_in, with_all}
use Rattle.pass_proofs.specs.run_step.Values.{Env, address, integer, truth_value, value_in, with_result, with_value}
use Rattle.run_slots.specs.Slots.{IsFrameBlock, IsSlottedState}

-- ---- names that are set

pub set_or_poison : (env : Env) (name : ℕ) (w : Value) → IsOrPoison (value_in (with_value env name w) name) w
set_or_poison [] name w = inl refl
set_or_poison (a ∷ env) zero w = inr refl
set_or_poison (a ∷ env) (suc name) w = set_or_poison env name w

-- ---- tests for null

record IsTestOf (v : ℕ) (a b : Operand) : Type 0 where
  pub is : ((a ≡ Operand.Local v) × (b ≡ Operand.Null)) ⊎ ((a ≡ Operand.Null) × (b ≡ Operand.Local v))

local_is : (v : ℕ) (a : Operand) → is_local v a ≡ true → a ≡ Operand.Local v
local_is v (Operand.Local u) h = ap Operand.Local (sym (equal_numbers v u h))
local_is v (Operand.Global n) h = absurd (cc)
local_is v (Operand.Number z) h = absurd (cc)
local_is v Operand.True h = absurd (cc)
local_is v Operand.False h = absurd (cc)
local_is v Operand.Null h = absurd (cc)
local_is v Operand.None h = absurd (cc)
local_is v Operand.Poison h = absurd (cc)

null_is : (a : Operand) → is_null a ≡ true → a ≡ Operand.Null
null_is Operand.Null h = refl
null_is (Operand.Local u) h = absurd (cc)
null_is (Operand.Global n) h = absurd (cc)
null_is (Operand.Number z) h = absurd (cc)
null_is Operand.True h = absurd (cc)
null_is Operand.False h = absurd (cc)
null_is Operand.None h = absurd (cc)
null_is Operand.Poison h = absurd (cc)

one_of : (p q : Bool) → (p || q) ≡ true → (p ≡ true) ⊎ (q ≡ true)
one_of true q h = inl refl
one_of false q h = inr h

test_of : (v : ℕ) (a b : Operand) → is_null_test v a b ≡ true → IsTestOf v a b
test_of v a b h = by (one_of (is_local v a && is_null b) (is_null a && is_local v b) h)
  where
    by : ((is_local v a && is_null b) ≡ true) ⊎ ((is_null a && is_local v b) ≡ true) → IsTestOf v a b
    by (inl k) =
        let p = both_true (is_local v a) (is_null b) k in
        record { is = inl (local_is v a p.0, null_is b p.1) }
    by (inr k) =
        let p = both_true (is_null a) (is_local v b) k in
        record { is = inr (null_is a p.0, local_is v b p.1) }

-- ---- an instance that is about to be freed

module _ (e : Elision) (s : State) (slotted : IsSlottedState s) (number : ℕ) (x : Instance)
    (there : slice_get s.instances number ≡ Some x) (unfreed : x.freed ≡ false)
    (r : IsReleasing e s number x) where
  abbrev g : FramedGiven
  g = framed e

  abbrev f : Function
  f = function_in e s.top.func

  abbrev v : ℕ
  v = r.name

  abbrev values : Env
  values = s.top.values

  -- it is still about to be freed, or was freed
  abbrev pub IsOn : State → Type 0
  IsOn u = (y : Instance) → slice_get u.instances number ≡ Some y → y.freed ≡ false → IsReleasing e u number y

  abbrev Keeps : Result State Cause → Type 0
  Keeps (Err cause) = Unit {0}
  Keeps (Ok u) = IsOn u

  is_it : (y : Instance) → slice_get s.instances number ≡ Some y → x ≡ y
  is_it y at = same_some x y (sym there ∙ at)

  same_address : (y : Instance) → slice_get s.instances number ≡ Some y
      → IsOrPoison (value_in values v) (frame_address_of y)
  same_address y at = subst (λ (z : Instance). IsOrPoison (value_in values v) (frame_address_of z)) (is_it y at) r.address

  -- ---- instructions

  -- the activation goes on, and its instance begins where it began
  goes_by : (u : State) (test : Option NullTest)
      → ((y : Instance) → slice_get u.instances number ≡ Some y → IsOrPoison (value_in values v) (frame_address_of y))
      → u.top.instance ≡ s.top.instance → u.top.func ≡ s.top.func → value_in u.top.values v ≡ value_in values v
      → IsAnswered u.top.values test → IsFreedSoon f v test u.top.block u.top.at → IsOn u
  goes_by u test addresses own func value answer place y at goes = record {
    instance = own ∙ r.instance;
    name = v;
    freed = ap (λ (k : ℕ). (e.shape k).freed v) func ∙ r.freed;
    address = subst (λ (z : Value). IsOrPoison z (frame_address_of y)) (sym value) (addresses y at);
    test = test;
    answer = answer;
    place = subst (λ (k : ℕ). IsFreedSoon (function_in e k) v test u.top.block u.top.at) (sym func) place;
  }

  goes_on : (u : State) (test : Option NullTest) → u.instances ≡ s.instances → u.top.instance ≡ s.top.instance
      → u.top.func ≡ s.top.func → value_in u.top.values v ≡ value_in values v → IsAnswered u.top.values test
      → IsFreedSoon f v test u.top.block u.top.at → IsOn u
  goes_on u test instances own func value answer place =
      goes_by u test
      (λ y at. same_address y (ap (λ (l : List Instance). slice_get l number) (sym instances) ∙ at)) own func value
      answer place

  answered : (new : Env) (test : Option NullTest)
      → ((t : NullTest) → test ≡ Some t → value_in new t.name ≡ value_in values t.name)
      → IsAnswered values test → IsAnswered new test
  answered new None same h = tt
  answered new (Some t) same h =
      subst (λ (z : Value). IsOrPoison z (truth_value (not t.is_eq))) (sym (same t refl)) h

  module _ (test : Option NullTest) (answer : IsAnswered values test) where
    -- what the instruction sets is neither
    on_values : (i : Instr) (new : Env) → Spares i v test
        → ((k : ℕ) → (result_of i ≡ Some k → ⊥) → value_in new k ≡ value_in values k)
        → (value_in new v ≡ value_in values v) × IsAnswered new test
    on_values i new spares others = (
      others v spares.freed,
      answered new test (λ t is. others t.name (spares.tested t is)) answer,
    )

    done_on : (i : Instr) (a : Action) → DoesCalmly i values a → Spares i v test
        → IsFreedSoon f v test s.top.block (s.top.at + 1) → Keeps (framed_act g s a)
    done_on i (Done w) h spares next =
        let k = on_values i w.values spares h in
        goes_on (settled s w) test refl refl refl k.0 k.1 next
    done_on i (Stuck cause) h spares next = tt
    done_on i (NewSlot w z) h spares next = absurd h
    done_on i (Enter func vs result must_tail) h spares next = absurd h
    done_on i (Coro j args result) h spares next = absurd h
    done_on i (Deallocate p) h spares next = absurd h
    done_on i (GoTo label) h spares next = absurd h
    done_on i (Return w) h spares next = absurd h

    plain_on : (i : Instr) → IsPlain i → Spares i v test
        → IsFreedSoon f v test s.top.block (s.top.at + 1)
        → Keeps (framed_act g s (instr_action (framed_context g s) (work_of s) i))
    plain_on i p spares next =
        done_on i (instr_action (framed_context g s) (work_of s) i)
        (does_calmly (framed_context g s) (work_of s) i p) spares next

    -- coro.size
    size_on : (result : Option ℕ) (must_tail : Bool) (ty : Option Ty) (j : Intrinsic) (args : List Arg) (w : Value)
        → Spares (Instr.Call result must_tail ty (Callee.Intrinsic j) args) v test
        → IsFreedSoon f v test s.top.block (s.top.at + 1) → IsOn (gives s result w)
    size_on result must_tail ty j args w spares next =
        let k = on_values (Instr.Call result must_tail ty (Callee.Intrinsic j) args) (with_result values result w)
        spares
        (λ u ne. other_result values result u w (λ n set same. ne (set ∙ ap Some (sym same)))) in
        goes_on (gives s result w) test refl refl refl k.0 k.1 next

    passes_on : (i : Instr) → is_calm i ≡ true → Spares i v test → IsFreedSoon f v test s.top.block (s.top.at + 1)
        → Keeps (framed_next g s (AtInstr i))
    passes_on (Instr.Binary name op flags ty a b) calm spares next =
        plain_on (Instr.Binary name op flags ty a b) tt spares next
    passes_on (Instr.Icmp name pred ty a b) calm spares next =
        plain_on (Instr.Icmp name pred ty a b) tt spares next
    passes_on (Instr.Select name c a b) calm spares next = plain_on (Instr.Select name c a b) tt spares next
    passes_on (Instr.Cast name op nneg arg to) calm spares next =
        plain_on (Instr.Cast name op nneg arg to) tt spares next
    passes_on (Instr.Load name ty q align) calm spares next = plain_on (Instr.Load name ty q align) tt spares next
    passes_on (Instr.Store arg q align) calm spares next = plain_on (Instr.Store arg q align) tt spares next
    passes_on (Instr.Gep name inbounds ty base indices) calm spares next =
        plain_on (Instr.Gep name inbounds ty base indices) tt spares next
    passes_on (Instr.Alloca name ty align) calm spares next = absurd (cc)
    passes_on (Instr.Call result must_tail ty (Callee.Intrinsic Intrinsic.CoroSizeI32) args) calm spares next =
        size_on result must_tail ty Intrinsic.CoroSizeI32 args (integer 32 (pos (own_frame g.given s).size)) spares
        next
    passes_on (Instr.Call result must_tail ty (Callee.Intrinsic Intrinsic.CoroSizeI64) args) calm spares next =
        size_on result must_tail ty Intrinsic.CoroSizeI64 args (integer 64 (pos (own_frame g.given s).size)) spares
        next
    passes_on (Instr.Call result must_tail ty callee args) calm spares next = absurd (cc)

  -- ---- the test for null

  -- a pointer may be compared with null
  may_be : (b : ℕ) (o : Offset) (z : Option MemoryBlock)
      → may_compare_at (framed_context g s).rights b z o ≡ true
  may_be b o None = refl
  may_be b o (Some z) = by (is_live z.life)
    where
      by : (t : Bool) → (not t || true) ≡ true
      by true = refl
      by false = refl

  module _ (t : NullTest) (ne : t.name ≡ v → ⊥)
      (next : IsFreedSoon f v (Some t) s.top.block (s.top.at + 1)) where
    abbrev pred : Pred
    pred = if t.is_eq then Pred.Eq else Pred.Ne

    abbrev act : Value → Value → Action
    act a b = compared (framed_context g s) (work_of s) t.name pred ptr a b

    -- where the frame's address is compared, the answer is that it isn't null
    answers : (c : Bool) → by_pred (if c then Pred.Eq else Pred.Ne) false ≡ not c
    answers true = refl
    answers false = refl

    tested_on : Keeps (framed_act g s (Done (set_value (work_of s) t.name (truth_value (by_pred pred false)))))
    tested_on =
        goes_on (settled s (set_value (work_of s) t.name (truth_value (by_pred pred false)))) (Some t) refl refl refl
        (other_value values t.name v (truth_value (by_pred pred false)) (λ same. ne (sym same)))
        (subst (λ (w : Value). IsOrPoison (value_in (with_value values t.name (truth_value (by_pred pred false))) t.name)
        w) (ap truth_value (answers t.is_eq))
        (set_or_poison values t.name (truth_value (by_pred pred false))))
        next

    abbrev compared_if : Bool → Action
    compared_if c =
        done (λ same. set_value (work_of s) t.name (truth_value (by_pred pred same))) (check c Cause.Compare (Ok false))

    checked_on : (c : Bool) → c ≡ true → Keeps (framed_act g s (compared_if c))
    checked_on true h = tested_on
    checked_on false h = absurd (cc)

    framed_on : Keeps (framed_act g s (compared_if (may_compare_at (framed_context g s).rights x.block
        (slice_get s.world.memory x.block) (record { bits = x.start }))))
    framed_on =
        checked_on
        (may_compare_at (framed_context g s).rights x.block (slice_get s.world.memory x.block)
        (record { bits = x.start }))
        (may_be x.block (record { bits = x.start }) (slice_get s.world.memory x.block))

    -- by what the name has
    left_on : (a : Value) → IsOrPoison a (frame_address_of x) → Keeps (framed_act g s (act a (Value.Ptr Pointer.Null)))
    left_on a (inl is) = subst (λ (w : Value). Keeps (framed_act g s (act w (Value.Ptr Pointer.Null)))) (sym is) tt
    left_on a (inr is) =
        subst (λ (w : Value). Keeps (framed_act g s (act w (Value.Ptr Pointer.Null)))) (sym is) framed_on

    right_on : (a : Value) → IsOrPoison a (frame_address_of x)
        → Keeps (framed_act g s (act (Value.Ptr Pointer.Null) a))
    right_on a (inl is) = subst (λ (w : Value). Keeps (framed_act g s (act (Value.Ptr Pointer.Null) w))) (sym is) tt
    right_on a (inr is) =
        subst (λ (w : Value). Keeps (framed_act g s (act (Value.Ptr Pointer.Null) w))) (sym is) framed_on

    abbrev of_operands : Operand → Operand → Action
    of_operands a b =
        act (value_at (framed_context g s) (work_of s) ptr a) (value_at (framed_context g s) (work_of s) ptr b)

    null_tested : (a b : Operand) → IsTestOf v a b → Keeps (framed_act g s (of_operands a b))
    null_tested a b h = by h.is
      where
        by : ((a ≡ Operand.Local v) × (b ≡ Operand.Null)) ⊎ ((a ≡ Operand.Null) × (b ≡ Operand.Local v))
            → Keeps (framed_act g s (of_operands a b))
        by (inl k) =
            subst (λ (p : Operand × Operand). Keeps (framed_act g s (of_operands p.0 p.1)))
            (λ j. (sym k.0 j, sym k.1 j)) (left_on (value_in values v) r.address)
        by (inr k) =
            subst (λ (p : Operand × Operand). Keeps (framed_act g s (of_operands p.0 p.1)))
            (λ j. (sym k.0 j, sym k.1 j)) (right_on (value_in values v) r.address)

  -- ---- edges

  module _ (label : ℕ) (test : Option NullTest) (none : phis_at f (position_of f label) ≡ [])
      (answer : IsAnswered values test) (place : IsFreedSoon f v test (position_of f label) 0) where
    -- the block has no phis
    values_stay : values_in e.code (slice_get f.blocks (position_of f label)) (label_of (slice_get f.blocks s.top.block))
        values ≡ values
    values_stay =
        ap (λ (ps : List Phi). with_all values (phi_values e.code values (label_of (slice_get f.blocks s.top.block)) ps))
        none

    entered_on : (z : State) (left : Bool) → z.top ≡ record s.top { has_left = left }
        → ((y : Instance) → slice_get z.instances number ≡ Some y
        → IsOrPoison (value_in values v) (frame_address_of y)) → IsOn (enter_block g.given z label)
    entered_on z left top addresses =
        goes_by (enter_block g.given z label) test addresses (ap (λ (a : Activation). a.instance) top)
        (ap (λ (a : Activation). a.func) top) (ap (λ (w : Env). value_in w v) stay)
        (subst (λ (w : Env). IsAnswered w test) (sym stay) answer)
        (subst (λ (b : ℕ). IsFreedSoon f v test b 0)
        (ap (λ (a : Activation). position_of (function_in e a.func) label) (sym top)) place)
      where
        stay : (enter_block g.given z label).top.values ≡ values
        stay =
            ap (λ (a : Activation). values_in e.code
            (slice_get (function_in e a.func).blocks (position_of (function_in e a.func) label))
            (label_of (slice_get (function_in e a.func).blocks a.block)) a.values) top ∙ values_stay

    leaves_on : (ws : List Window) → Keeps (leave g.given s label ws)
    leaves_on ws = by (own_instance s) refl
      where
        on : (i : ℕ) (z : Instance) → (s.top.instance ≡ Some i) × (slice_get s.instances i ≡ Some z) → (t : Bool)
            → Keeps (ok_if t Cause.State
            (enter_block g.given (with_left (with_status s i z Status.Running) false) label))
        on i z own false = tt
        on i z own true =
            entered_on (with_left (with_status s i z Status.Running) false) false refl (λ y at. by_set y at)
          where
            is : number ≡ i
            is = one number i (sym r.instance ∙ own.0)
              where
                one : (a b : ℕ) → Some a ≡ Some b → a ≡ b
                one a b e = cc

            by_set : (y : Instance)
                → slice_get (slice_set s.instances i (record z { status = Status.Running })) number ≡ Some y
                → IsOrPoison (value_in values v) (frame_address_of y)
            by_set y at =
                let new : record z { status = Status.Running } ≡ y
                = same_some (record z { status = Status.Running }) y
                (sym (new_there s.instances i z (record z { status = Status.Running }) own.1)
                ∙ (ap (slice_get (slice_set s.instances i (record z { status = Status.Running }))) (sym is) ∙ at)) in
                subst (λ (q : Instance). IsOrPoison (value_in values v) (frame_address_of q)) new
                (same_address z (ap (slice_get s.instances) is ∙ own.1))

        by : (o : Option (ℕ × Instance)) → own_instance s ≡ o
            → Keeps (and_then (found Cause.State o) (λ (i, z).
            ok_if (list_all (may_leave (length s.below) z) ws) Cause.State
            (enter_block g.given (with_left (with_status s i z Status.Running) false) label)))
        by None eo = tt
        by (Some (i, z)) eo = on i z (own_number s i z eo) (list_all (may_leave (length s.below) z) ws)

    windows_on : (ws : List Window) → Keeps (branch_leaving g.given s label ws)
    windows_on [] = entered_on s s.top.has_left refl same_address
    windows_on (w ∷ ws) = leaves_on (w ∷ ws)

    label_on : Keeps (framed_act g s (GoTo label))
    label_on = windows_on (left_windows g.given s label)

  way_on : (c : Bool) (one other : ℕ) → phis_at f (position_of f (if c then other else one)) ≡ []
      → IsFreedSoon f v None (position_of f (if c then other else one)) 0
      → Keeps (framed_act g s (branch (truth_value (not c)) one other))
  way_on true one other none place = label_on other None none tt place
  way_on false one other none place = label_on one None none tt place

  branch_on : (c : Bool) (one other : ℕ) (a : Value) → IsOrPoison a (truth_value (not c))
      → phis_at f (position_of f (if c then other else one)) ≡ []
      → IsFreedSoon f v None (position_of f (if c then other else one)) 0 → Keeps (framed_act g s (branch a one other))
  branch_on c one other a (inl is) none place =
      subst (λ (w : Value). Keeps (framed_act g s (branch w one other))) (sym is) tt
  branch_on c one other a (inr is) none place =
      subst (λ (w : Value). Keeps (framed_act g s (branch w one other))) (sym is) (way_on c one other none place)

  -- ---- the deallocation

  frame : IsFrameBlock s.world.memory x
  frame = slotted.slotted.frames number x there

  -- it is the one instance that began there
  found_it : instance_at s.instances (frame_address_of x) ≡ Some (number, x)
  found_it =
      last_is_where (began_at x.block x.start) s.instances number x
      (record { there = there; passes = begins; later = later })
    where
      begins : began_at x.block x.start x ≡ true
      begins = (λ j. itself x.block j && (x.start == x.start)) ∙ itself x.start

      later : (j : ℕ) (z : Instance) → number < j → slice_get s.instances j ≡ Some z
          → began_at x.block x.start z ≡ false
      later j z lt at = by (began_at x.block x.start z) refl
        where
          by : (c : Bool) → began_at x.block x.start z ≡ c → began_at x.block x.start z ≡ false
          by false is = is
          by true is =
              let same = slotted.slotted.apart j number z x at there (began_in x.block x.start z is) in
              absurd (omega (arith, lt, same))

  -- it is owned
  owned : is_owned (slice_get s.world.memory x.block) ≡ true
  owned = ap is_owned frame.there ∙ frame.owned unfreed

  abbrev after_it : State → Result State Cause
  after_it z =
      and_then (deallocated z.world.memory (frame_address_of x))
      (λ (memory : List MemoryBlock). Ok (next (with_memory z memory)))

  let_go_on : (q : Result (List MemoryBlock) Cause)
      → Keeps (and_then q (λ (memory : List MemoryBlock). Ok (next (with_memory (let_go s number x) memory))))
  let_go_on (Err cause) = tt
  let_go_on (Ok memory) = λ y at goes. absurd (no_both y.freed goes (freed y at))
    where
      freed : (y : Instance) → slice_get (slice_set s.instances number (record x { freed = true })) number ≡ Some y
          → y.freed ≡ true
      freed y at =
          ap (λ (z : Instance). z.freed)
          (sym (same_some (record x { freed = true }) y
          (sym (new_there s.instances number x (record x { freed = true }) there) ∙ at)))

  abbrev killed_if : (start owned : Bool) → Result (List MemoryBlock) Cause
  killed_if start owned =
      if not start then Err Cause.Free else if owned then Err Cause.Owned else Ok (killed s.world.memory x.block)

  stays_owned : Keeps (after_it s)
  stays_owned = by (x.start == 0 && is_unkilled Kind.Allocator (slice_get s.world.memory x.block))
    where
      by : (c : Bool) → Keeps (and_then (killed_if c (is_owned (slice_get s.world.memory x.block)))
          (λ (memory : List MemoryBlock). Ok (next (with_memory s memory))))
      by false = tt
      by true =
          subst (λ (c : Bool). Keeps (and_then (killed_if true c)
          (λ (memory : List MemoryBlock). Ok (next (with_memory s memory))))) (sym owned) tt

  frees_it : Keeps (deallocate s (frame_address_of x))
  frees_it =
      subst (λ (o : Option (ℕ × Instance)). Keeps (after_it (if_let_go s o))) (sym found_it) (by (may_be_freed x))
    where
      by : (c : Bool) → Keeps (after_it (if c then let_go s number x else s))
      by true = let_go_on (deallocated (let_go s number x).world.memory (frame_address_of x))
      by false = stays_owned

  frees_on : (a : Value) → IsOrPoison a (frame_address_of x) → Keeps (deallocate s (address a))
  frees_on a (inl is) = subst (λ (w : Value). Keeps (deallocate s (address w))) (sym is) tt
  frees_on a (inr is) = subst (λ (w : Value). Keeps (deallocate s (address w))) (sym is) frees_it

  -- ---- places

  abbrev here : Fetched
  here = fetch f s.top.block s.top.at

  place_on : (test : Option NullTest) (block at : ℕ) → IsFreedSoon f v test block at → s.top.block ≡ block
      → s.top.at ≡ at → IsAnswered values test → Keeps (framed_next g s here)
  place_on _ _ _ (Frees test block at result must_tail ty a args stands frees takes) eb ea answer =
      subst (λ (y : Fetched). Keeps (framed_next g s y)) (sym ((λ j. fetch f (eb j) (ea j)) ∙ stands))
      (subst Keeps (sym (deallocates g s a result must_tail ty args frees
      ∙ ap (λ (w : Value). deallocate s (address w)) (first_value e.code values args v takes)))
      (frees_on (value_in values v) r.address))
  place_on _ _ _ (Passes test block at i stands calm spares next) eb ea answer =
      subst (λ (y : Fetched). Keeps (framed_next g s y)) (sym ((λ j. fetch f (eb j) (ea j)) ∙ stands))
      (passes_on test answer i calm spares
      (subst (λ (p : ℕ × ℕ). IsFreedSoon f v test p.0 (p.1 + 1)) (λ j. (sym eb j, sym ea j)) next))
  place_on _ _ _ (Tests block at t a b stands test ne next) eb ea answer =
      subst (λ (y : Fetched). Keeps (framed_next g s y)) (sym ((λ j. fetch f (eb j) (ea j)) ∙ stands))
      (null_tested t ne
      (subst (λ (p : ℕ × ℕ). IsFreedSoon f v (Some t) p.0 (p.1 + 1)) (λ j. (sym eb j, sym ea j)) next) a b
      (test_of v a b test))
  place_on _ _ _ (Branches block at t one other stands none place) eb ea answer =
      subst (λ (y : Fetched). Keeps (framed_next g s y)) (sym ((λ j. fetch f (eb j) (ea j)) ∙ stands))
      (branch_on t.is_eq one other (value_in values t.name) answer none place)
  place_on _ _ _ (Jumps test block at label stands none place) eb ea answer =
      subst (λ (y : Fetched). Keeps (framed_next g s y)) (sym ((λ j. fetch f (eb j) (ea j)) ∙ stands))
      (label_on label test none answer place)

  undefined_on : (q : Result State Cause) → Keeps q → IsOn (or_undefined g.given s q)
  undefined_on (Err cause) k = goes_on (or_undefined g.given s (Err cause)) r.test refl refl refl refl r.answer r.place
  undefined_on (Ok u) k = k

  advance_on : (o : Outcome) → IsOn (framed_advance g s o)
  advance_on Outcome.Running =
      undefined_on (framed_next g s here) (place_on r.test s.top.block s.top.at r.place refl refl r.answer)
  advance_on (Outcome.Returned w) = goes_on s r.test refl refl refl refl r.answer r.place
  advance_on (Outcome.Undefined cause at) = goes_on s r.test refl refl refl refl r.answer r.place

  pub releasing_goes_on : IsOn (framed_step g s)
  releasing_goes_on = advance_on s.outcome
