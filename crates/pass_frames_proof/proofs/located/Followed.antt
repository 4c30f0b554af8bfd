-- An access before begin of a slot that is used there is followed: it goes by the address in the slot's cell.
use Rattle.std.proofs.Common.{◌≡◌, ◌+◌, ◌<◌, ◌≤◌, ◌∷◌, ◌++◌, ◌∙◌, [], List, None, Option, Some, ap, arith, inl, inr}
use Rattle.std.proofs.Common.{length, refl, subst, sym, true, ℕ}
use Rattle.pass_frames_steps.proofs.ir_laws.facts.Members.{each_joined}
use Rattle.pass_frames_steps.specs.ir_model.Ty.{Ty}
use Rattle.pass_frames_steps.specs.ir_model.declared.instr.Instr.{Instr}
use Rattle.pass_frames_steps.specs.ir_model.declared.operand.Callee.{Callee}
use Rattle.pass_frames_steps.specs.ir_model.declared.operand.Intrinsic.{Intrinsic}
use Rattle.pass_frames_steps.specs.ir_model.declared.operand.Operand.{Operand}
use Rattle.pass_frames_steps.specs.ir_parts.Contents.{instr_operands, result_of}
use Rattle.pass_frames_steps.specs.pass_cells.Cells.{fetches_of}
use Rattle.pass_frames_steps.specs.pass_cells.Kept.{entry}
use Rattle.pass_frames_steps.specs.pass_cells.Written.{stored_result}
use Rattle.pass_frames_steps.specs.pass_cells.declared.plan.KeptValue.{KeptValue}
use Rattle.pass_frames_steps.specs.pass_copies.Uses.{is_access}
use Rattle.pass_frames_steps.specs.pass_fetch.Fetching.{fetched_operand, fetches_of_all, next_after, next_after_all}
use Rattle.pass_frames_steps.specs.pass_fetch.declared.fetch.Fetch.{Fetch}
use Rattle.pass_frames_steps.proofs.code.Instrs.{instr_code}
use Rattle.pass_frames_steps.proofs.code.Left.{parts_left}
use Rattle.pass_frames_steps.proofs.copying.Refilled.{refilled_homes, refilled_related}
use Rattle.pass_frames_proof.proofs.early.Unlocated.{access_same}
use Rattle.pass_frames_steps.proofs.fronted.Giving.{front_followed}
use Rattle.pass_frames_steps.proofs.fronted.State.{cost_going, fetched_going, stand_going}
use Rattle.pass_frames_steps.proofs.here.Giving.{stand_right}
use Rattle.pass_frames_steps.proofs.here.Line.{never_idle}
use Rattle.pass_frames_steps.proofs.lined.Lines.{framed_does}
use Rattle.pass_frames_proof.proofs.located.Access.{IsLedTo, StoresOther, access_does, access_lined}
use Rattle.pass_frames_proof.proofs.located.Does.{DoesToo}
use Rattle.pass_frames_proof.proofs.located.Line.{front_still, line_gives, line_is, line_no_alloca}
use Rattle.pass_frames_proof.proofs.located.Seen.{IsSeenAt}
use Rattle.pass_frames_proof.proofs.located.State.{led, seen_all, wide}
use Rattle.pass_frames_proof.proofs.located.Thrice.{AreThrice, third, thrice}
use Rattle.pass_frames_proof.proofs.located.Wheres.{where_value}
use Rattle.pass_frames_steps.proofs.stepping.After.{not_set}
use Rattle.pass_frames_steps.proofs.stepping.Codes.{code_stands}
use Rattle.pass_frames_steps.proofs.stepping.May.{not_returned}
use Rattle.pass_frames_steps.proofs.stepping.Operands.{slot_address}
use Rattle.pass_frames_steps.proofs.stepping.Stands.{renewed_does}
use Rattle.pass_frames_steps.specs.Code.{address_state, load_name, loaded, slot_table, where_name}
use Rattle.pass_frames_steps.specs.Followed.{IsFollowed}
use Rattle.pass_frames_steps.specs.Framings.{IsFraming}
use Rattle.pass_frames_steps.specs.Fronted.{IsFronted, IsGoing}
use Rattle.pass_frames_steps.specs.Layers.{becomes}
use Rattle.pass_frames_steps.specs.Led.{IsNotSet}
use Rattle.pass_frames_steps.specs.Lined.{GivesNone, lined}
use Rattle.pass_frames_steps.specs.Lines.{IsStorable}
use Rattle.pass_frames_steps.specs.Loaded.{loaded_value}
use Rattle.pass_frames_steps.specs.Located.{IsAddress, IsAtAccess, StoresNone, addressed_instr, located_front}
use Rattle.pass_frames_steps.specs.Located.{located_instr, located_line, where_table}
use Rattle.pass_frames_steps.specs.Meaning.{step_cost}
use Rattle.pass_frames_steps.specs.Places.{Framing, Placed, named, placed_layer, plan, written}
use Rattle.pass_frames_steps.specs.Related.{AreBuiltOf, Building, IsKeptValue, instance_in}
use Rattle.pass_frames_steps.specs.Stepping.{AreFieldsSpared, AreGiven, StandsInPlace, state_in}
use Rattle.pass_frames_steps.specs.Temporaries.{HasLedSlots}
use Rattle.pass_frames_steps.specs.pass_renewed_proof.Renewed.{RenewedGiven, renewed_step}
use Rattle.pass_frames_steps.proofs.pass_proofs.fetch.rules.Puts.{fetch_rises}
use Rattle.pass_frames_steps.specs.run_framed.Framed.{FramedGiven, framed_context, framed_step, given_call}
use Rattle.pass_frames_steps.proofs.run_laws.memory.Itself.{owner_rights_fit}
use Rattle.pass_frames_steps.specs.run_laws.access.Changed.{KeepsFree}
use Rattle.pass_frames_steps.specs.run_laws.changed.Changed.{Each}
use Rattle.pass_frames_steps.specs.run_laws.memory.Pointers.{Home, IsValue}
use Rattle.pass_frames_steps.specs.run_laws.transfer.Muted.{muted}
use Rattle.pass_frames_steps.specs.run_laws.transfer.Transfer.{AreOver}
use Rattle.pass_frames_steps.proofs.run_access_worked.run_laws_worked.Frames.{frame_rights_fit}
use Rattle.pass_frames_steps.specs.run_memory.Memory.{owner_rights}
use Rattle.pass_frames_steps.specs.run_source.Source.{context_of}
use Rattle.pass_frames_steps.specs.run_source.State.{function_of, gives, settled, work_of}
use Rattle.pass_frames_steps.specs.run_source.declared.state.State.{State}
use Rattle.pass_frames_steps.specs.run_step.Step.{AtInstr, Context, Done, Work, fetch, value_at}
use Rattle.pass_frames_steps.specs.run_step.Values.{Env, value_in, with_result}
use Rattle.pass_frames_steps.specs.run_step.declared.world.World.{World}

-- an access calls no ramp
not_given : (f : FramedGiven) (t : State) (j : Instr) → is_access j ≡ true → given_call f t (AtInstr j) ≡ None
not_given f t (Instr.Load r ty p align) e = refl
not_given f t (Instr.Store arg p align) e = refl
not_given f t (Instr.Call r must_tail ty (Callee.Intrinsic Intrinsic.MemcpyI64) args) e = refl
not_given f t (Instr.Call r must_tail ty (Callee.Intrinsic Intrinsic.MemcpyI32) args) e = refl
not_given f t _ e = absurd (cc)

gives_none : (b : Building) (j : Instr) → is_access j ≡ true → GivesNone b.framed_code j
gives_none b (Instr.Load r ty p align) e = refl
gives_none b (Instr.Store arg p align) e = refl
gives_none b (Instr.Call r must_tail ty (Callee.Intrinsic Intrinsic.MemcpyI64) args) e = refl
gives_none b (Instr.Call r must_tail ty (Callee.Intrinsic Intrinsic.MemcpyI32) args) e = refl
gives_none b _ e = absurd (cc)

stores_other : (x : Framing) (i : Instr) → StoresNone x i → StoresOther (where_table x) i
stores_other x (Instr.Store arg p align) h = h
stores_other x (Instr.Load r ty p align) h = tt
stores_other x (Instr.Binary r op flags ty a b) h = tt
stores_other x (Instr.Icmp r pred ty a b) h = tt
stores_other x (Instr.Select r k a b) h = tt
stores_other x (Instr.Cast r op nneg a to) h = tt
stores_other x (Instr.Alloca r ty align) h = tt
stores_other x (Instr.Gep r inbounds ty p indices) h = tt
stores_other x (Instr.Call r must_tail ty callee args) h = tt

module _ (b : Building) (g : RenewedGiven) (given : AreGiven b g) (s t : State) (r : AreBuiltOf b s t)
    (ledger : HasLedSlots t) (i : Instr) (v : Work) (h : IsAtAccess b g s i v) (spared : AreFieldsSpared b s t r) where
  abbrev x : Framing
  x = b.framing s.top.func

  abbrev st : Placed
  st = state_in x s.top.block s.top.at

  abbrev n : ℕ
  n = load_name st

  abbrev k : ℕ
  k = where_name st

  abbrev m : ℕ
  m = (address_state st).0

  abbrev c : Context
  c = context_of g.given s

  abbrev d : Context
  d = framed_context b.given t

  abbrev T : List (Option Fetch)
  T = fetches_of (plan x)

  abbrev W : List (Option Fetch)
  W = where_table x

  abbrev U : List (Option Fetch)
  U = slot_table x

  abbrev front : List Instr
  front = located_front x st i

  abbrev j : Instr
  j = located_instr x st i

  abbrev line : List Instr
  line = located_line x st i

  is : IsFraming x
  is = given.framings s.top.func h.coroutine

  plain : (q : ℕ) → result_of i ≡ Some q → entry (plan x).cells q ≡ None
  plain q e = (h.unmeasured q e).no_distance

  -- ---- the line in front

  ordered : (length (named x).names ≤ n) × (n ≤ k) × (k ≤ m)
  ordered =
      let low = h.order.low in
      let up : n ≤ next_after_all T n (instr_operands i) = fetch_rises T n (instr_operands i) in
      let loads = h.order.loads in
      let high = h.order.wheres in
      let more : k ≤ next_after_all W k (instr_operands (loaded x st i)) =
      fetch_rises W k (instr_operands (loaded x st i)) in
      let addresses = h.order.addresses in
      (low, omega (arith, up, loads, high), omega (arith, more, addresses))

  going : IsGoing b s.top
  going = record { coroutine = h.coroutine; mode = h.mode; unreturned = h.unreturned }

  unset : (u : ℕ) → Each (IsNotSet u) (fetches_of_all T n (instr_operands i)) → u < k → Each (IsNotSet u) front
  unset u first low =
      let o = ordered in
      let most : k ≤ m = o.2 in
      each_joined (IsNotSet u) (fetches_of_all T n (instr_operands i))
      (fetches_of_all W k (instr_operands (loaded x st i)) ++ fetches_of_all U m (instr_operands
      (addressed_instr x st i))) first
      (each_joined (IsNotSet u) (fetches_of_all W k (instr_operands (loaded x st i)))
      (fetches_of_all U m (instr_operands (addressed_instr x st i)))
      (not_set W u k (instr_operands (loaded x st i)) (inl low))
      (not_set U u m (instr_operands (addressed_instr x st i)) (inl (omega (arith, low, most)))))

  unset_slot : (u : ℕ) → length (written x).names ≤ u → u < k → Each (IsNotSet u) front
  unset_slot u high low =
      let loads = h.order.loads in
      unset u (not_set T u n (instr_operands i) (inr (omega (arith, loads, high)))) low

  fronted : IsFronted b s.top i front
  fronted = record {
    going = going;
    unmeasured = h.unmeasured;
    room = h.room;
    allocas = h.allocas;
    still = front_still x s.top.block st i (access_lined i h.access) h.ahead h.access plain;
    low = λ u lt.
        let o = ordered in
        let a = o.0 in
        let e = o.1 in
        unset u (not_set T u n (instr_operands i) (inl (omega (arith, lt, a)))) (omega (arith, lt, a, e));
    cells = λ e listed. let q = h.order.slots e listed in unset_slot e.cell q.0.1 q.1.1;
    temporaries = λ e listed. let q = h.order.slots e listed in unset_slot e.temporary q.0.0 q.1.0;
  }

  -- ---- the code

  code_is : becomes (placed_layer x s.top.block) st i ≡ line
  code_is =
      instr_code x s.top.block st i (parts_left x is s.top.block s.top.at i h.there)
      ∙ line_is x s.top.block st i (access_lined i h.access) h.ahead h.access plain

  stands_there : StandsInPlace x s.top.block s.top.at line
  stands_there =
      code_stands x s.top.block s.top.at i line h.there code_is
      (line_no_alloca x s.top.block st i (access_lined i h.access) h.ahead h.access plain) h.unreturned

  none_there : Each (GivesNone b.framed_code) line
  none_there =
      line_gives x s.top.block st i (access_lined i h.access) h.ahead h.access plain b.framed_code
      (gives_none b i h.access)

  -- ---- what it does

  abbrev S : Work
  S = (led b g given s t r ledger i v h).work

  same_world : S.world ≡ t.world
  same_world = (led b g given s t r ledger i v h).sets.world

  before : AreOver c.rights d.rights r.homes r.hides (λ z. z) s.world S.world
  before = subst (λ (w : World). AreOver c.rights d.rights r.homes r.hides (λ z. z) s.world w) (sym same_world) r.world

  abbrev Led : Operand → Operand → Type 0
  Led = IsLedTo T W U r.homes r.hides c d owner_rights_fit (frame_rights_fit b.given t.instances) (work_of s) S v before

  abbrev Same : Operand → Operand → Type 0
  Same a e = (ty : Ty) → value_at d S ty e
      ≡ thrice T W U (loaded_value x d (work_of t)) (where_value x d (work_of t))
      (slot_address x (instance_in t.instances t.top.instance)) d (work_of t) ty a

  turned : (a e : Operand) → IsSeenAt b g s t r ledger i v h a → Same a e → Led a e
  turned a e seen same = record {
    leads = λ ty. subst (IsAddress r.homes r.hides (value_at c (work_of s) ty a)) (sym (same ty)) (seen.leads ty);
    stands = λ none ty. subst (IsValue r.homes (value_at c (work_of s) ty a)) (sym (same ty)) (seen.stands none ty);
  }

  all_turned : (p q o : ℕ) (xs : List Operand) → Each (IsSeenAt b g s t r ledger i v h) xs
      → AreThrice T W U Same p q o xs → AreThrice T W U Led p q o xs
  all_turned p q o [] seen same = tt
  all_turned p q o (a ∷ xs) seen same = (
    turned a (third T W U p q o a) seen.0 same.0,
    all_turned (next_after T p a) (next_after W q (fetched_operand T p a))
        (next_after U o (fetched_operand W q (fetched_operand T p a))) xs seen.1 same.1,
  )

  does : DoesToo c d r.homes r.hides (work_of s) S v i j
  does =
      access_does T W U r.homes r.hides c d owner_rights_fit (frame_rights_fit b.given t.instances) (work_of s) S v
      before n k m i h.access h.plain (stores_other x i h.stored) h.bytes
      (all_turned n k m (instr_operands i) (seen_all b g given s t r ledger i v h)
      (led b g given s t r ledger i v h).seen) h.does

  -- ---- behind it

  abbrev u2 : World
  u2 = record t.world { memory = does.memory }

  same_after : record S.world { memory = does.memory } ≡ u2
  same_after = ap (λ (w : World). record w { memory = does.memory }) same_world

  r2 : AreBuiltOf b (record s { world = v.world }) (record t { world = u2 })
  r2 =
      refilled_related b s t r v.world u2 given.framings does.refilled
      (subst (λ (w : World). KeepsFree owner_rights r.homes (muted r.hides s.world.memory) w.memory does.memory)
      same_world does.keeps) spared (λ q. not_returned x s.top s.top.mode h.mode h.unreturned)
      (subst (λ (w : World). AreOver owner_rights d.rights r.homes r.hides (λ z. z) v.world w) same_after does.over)

  stands_too : IsValue r2.homes does.value does.other
  unfolding r2
  stands_too =
      subst (λ (homes : List Home). IsValue homes does.value does.other)
      (sym (refilled_homes b s t r v.world u2 given.framings does.refilled
      (subst (λ (w : World). KeepsFree owner_rights r.homes (muted r.hides s.world.memory) w.memory does.memory)
      same_world does.keeps) spared (λ q. not_returned x s.top s.top.mode h.mode h.unreturned)
      (subst (λ (w : World). AreOver owner_rights d.rights r.homes r.hides (λ z. z) v.world w) same_after does.over)))
      does.stands

  source_goes : renewed_step g s ≡ gives (record s { world = v.world }) (result_of i) does.value
  source_goes =
      renewed_does g s (AtInstr i) (Done v) h.runs (fetched_going b g given s t r going i h.there)
      (never_idle (g.flags s.top.func) i (access_lined i h.access)) h.does
      ∙ ap (λ (env : Env). record s {
        world = v.world;
        top = record s.top { at = s.top.at + 1; values = env };
      }) does.is

  there : fetch (function_of b.given.given t) t.top.block (t.top.at + length front) ≡ AtInstr j
  there =
      (stand_right (function_of b.given.given t) t.top.block t.top.at front (j ∷ stored_result (plan x) (result_of i))
      (stand_going b g given s t r going line stands_there.0)).0

  access_there : is_access j ≡ true
  access_there =
      access_same U m (addressed_instr x st i) ∙ access_same W k (loaded x st i) ∙ access_same T n i ∙ h.access

  target_goes : framed_step b.given (lined t (length front) S)
      ≡ settled (lined (record t { world = u2 }) (length front) S)
      (record { world = u2; values = with_result S.values (result_of i) does.other })
  target_goes =
      framed_does b.given (lined t (length front) S) (AtInstr j)
      (Done (record {
        world = record S.world { memory = does.memory };
        values = with_result S.values (result_of i) does.other;
      })) (r.outcome ∙ h.runs) there (not_given b.given (lined t (length front) S) j access_there) does.does
      ∙ ap (λ (w : World). settled (lined t (length front) S)
      (record { world = w; values = with_result S.values (result_of i) does.other })) same_after

  few : length line ≤ step_cost b g s s.top.mode
  few =
      subst (λ (q : ℕ). length line ≤ q)
      (sym (cost_going b g given s t r going i h.there v line h.does stands_there)) (same (length line))
    where
      same : (q : ℕ) → q ≤ q
      same q = omega arith

  fits : (q : ℕ) (kv : KeptValue) → result_of i ≡ Some q → IsKeptValue x q kv
      → IsStorable kv.ty (value_in (with_result s.top.values (result_of i) does.value) q)
  fits q kv e kept =
      subst (λ (env : Env). IsStorable kv.ty (value_in env q)) does.is (h.storable q kv e kept)

  pub access_followed : IsFollowed b g s t
  access_followed =
      front_followed b g given s t r i j front fronted h.runs stands_there none_there v.world s.instances u2 t.instances
      r2 does.value does.other stands_too S n ordered.0 (led b g given s t r ledger i v h).runs
      (led b g given s t r ledger i v h).sets
      (wide b g given s t r ledger i v h (length S.values) (led b g given s t r ledger i v h).sets.room) fits
      source_goes target_goes few
