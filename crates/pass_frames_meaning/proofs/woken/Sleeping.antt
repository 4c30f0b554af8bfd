-- A suspended instance that is woken: what is asked of it, and of the coroutine's tables, by whether it makes slots
-- anew.
use Rattle.std.proofs.Common.{◌≡◌, ◌⊎◌, ◌∷◌, [], inl, inr, ⊎_elim, ℕ, Bool, true, false, List, Option, Some, None, Ok, refl, sym, ap, ◌∙◌, subst, arith}
use Rattle.std.proofs.lemmas.Bool.{false≢true}
use Rattle.std.specs.Prelude.{flat_map, slice_get}
use Rattle.pass_frames_proof.specs.flow_solver.Paths.{IsListed}
use Rattle.pass_frames_proof.proofs.ir_laws.paths.source_rules.Locals.{listed_left}
use Rattle.pass_frames_proof.specs.ir_model.Names.{function_at}
use Rattle.pass_frames_proof.specs.ir_model.Ty.{Ty}
use Rattle.pass_frames_proof.specs.ir_model.declared.instr.Instr.{Instr}
use Rattle.pass_frames_proof.specs.ir_model.declared.module.Block.{Block}
use Rattle.pass_frames_proof.specs.ir_model.declared.module.Function.{Function}
use Rattle.pass_frames_proof.specs.ir_paths.Slots.{allocas_in, allocas_of}
use Rattle.pass_frames_proof.specs.ir_paths.declared.point.Point.{Point}
use Rattle.pass_frames_proof.specs.pass_cells.Kept.{entry}
use Rattle.pass_frames_proof.specs.pass_frames.Framed.{begin_of}
use Rattle.pass_frames_meaning.proofs.begun.Begun.{begin_plain}
use Rattle.pass_frames_meaning.proofs.led.Values.{asleep_at}
use Rattle.pass_frames_meaning.proofs.others.Returns.{instr_in}
use Rattle.pass_frames_meaning.proofs.slotted.Facts.{instances_placed}
use Rattle.pass_frames_meaning.proofs.woken.Edges.{IsLabelOf, edge_block, returns_there}
use Rattle.pass_frames_meaning.proofs.woken.Flagged.{HasTaken, IsNextAt, next_at, none_at, taken_at}
use Rattle.pass_frames_meaning.proofs.woken.Fronts.{fronts_good}
use Rattle.pass_frames_meaning.proofs.woken.Handed.{gone, handed, kept_out, unhanded}
use Rattle.pass_frames_meaning.proofs.woken.Unkept.{alloca_unkept, begin_no_alloca}
use Rattle.pass_frames_meaning.specs.Led.{AreLed, IsLedStatus}
use Rattle.pass_frames_meaning.specs.Setting.{AreOfRuns, KeepsAll, Setting}
use Rattle.pass_frames_meaning.specs.Woken.{IsWakeable, KeepsWaking, MayWake, none_counts}
use Rattle.pass_frames_proof.proofs.anew.Lists.{alloca_listed}
use Rattle.pass_frames_proof.proofs.followed.Assembly.{other_instance}
use Rattle.pass_frames_proof.proofs.ramps.Plain.{entry_there}
use Rattle.pass_frames_proof.proofs.suspending.Given.{edged_framed}
use Rattle.pass_frames_proof.specs.Framings.{IsFraming}
use Rattle.pass_frames_proof.specs.Places.{Framing, edged, instrs_at, offsets, plan}
use Rattle.pass_frames_proof.specs.Related.{AreBuiltOf, AreInstances, IsStatus, IsSuspendNumber, is_coroutine}
use Rattle.pass_frames_proof.specs.Waking.{HasFirstAnew, HasNoneAnew, IsSleeping}
use Rattle.pass_frames_proof.proofs.pass_kept_proof.Same.{kept_at}
use Rattle.pass_frames_proof.specs.pass_kept_proof.Kept.{kept}
use Rattle.pass_frames_proof.specs.pass_proofs.addresses.rules.Addresses.{lies_in_frame}
use Rattle.pass_frames_proof.specs.pass_renewed_proof.Renewed.{renewed_from}
use Rattle.pass_frames_proof.specs.pass_renewed_proof.SlotRules.{IsMadeOnce}
use Rattle.pass_frames_proof.specs.run_memory.declared.pointer.Value.{Value}
use Rattle.pass_frames_proof.specs.run_source.Source.{Sleeper, sleeper_at}
use Rattle.pass_frames_proof.specs.run_source.State.{frame_address_of}
use Rattle.pass_frames_proof.specs.run_source.declared.state.Instance.{Instance}
use Rattle.pass_frames_proof.specs.run_source.declared.state.State.{State}
use Rattle.pass_frames_proof.specs.run_source.declared.state.Status.{Status}
use Rattle.pass_frames_proof.proofs.run_states.sound_states.Acts.{IsAsleepAt, asleep_there}
use Rattle.pass_frames_proof.specs.run_step.Values.{Env, value_in}

-- ---- of a coroutine, where it is woken behind a suspend

in_entry : (bs : List Block) (b : Block) (at v align : ℕ) (ty : Ty) → slice_get bs 0 ≡ Some b
    → slice_get b.instrs at ≡ Some (Instr.Alloca v ty align)
    → IsListed v (flat_map (λ (d : Block). allocas_in d.instrs) bs)
in_entry [] b at v align ty e h = absurd (cc)
in_entry (c ∷ cs) b at v align ty e h =
    let same : b ≡ c = cc in
    listed_left v (allocas_in c.instrs) (flat_map (λ (d : Block). allocas_in d.instrs) cs)
    (alloca_listed c.instrs at v align ty (ap (λ (d : Block). slice_get d.instrs at) (sym same) ∙ h))

module _ (c : Setting) (all : KeepsAll c) (waking : KeepsWaking c) (func : ℕ)
    (coroutine : is_coroutine c.b func ≡ true) where
  abbrev x : Framing
  x = c.b.framing func

  pub is : IsFraming (c.b.framing func)
  is = all.given.framings func coroutine

  pub w : IsWakeable c func (c.b.framing func)
  w = waking.coroutines func coroutine

  pub same : function_at c.g.given.code func ≡ edged (c.b.framing func)
  same = all.given.coroutines func coroutine

  -- allocas of the entry are among the function's
  pub entry_alloca : (at v align : ℕ) (ty : Ty) → slice_get (instrs_at x 0) at ≡ Some (Instr.Alloca v ty align)
      → IsListed v (allocas_of (edged x))
  entry_alloca at v align ty e = in_entry (edged x).blocks _ at v align ty (entry_there x is) e

  -- a name that is flagged is that of one
  pub made_there : (v : ℕ) → c.g.flags func v ≡ true → IsMadeOnce (edged x) v
  made_there v e = subst (λ (f : Function). IsMadeOnce f v) same ((waking.slots.each func).made v e)

  module _ (j : ℕ) (p : Point) (number : IsSuspendNumber x j p) (values : Env) where
    abbrev env : Env
    env = kept (c.g.keep func p) values

    -- of what is neither made anew nor in the frame nothing is handed on, but begin's value
    left_out : (v : ℕ) → entry (plan x).places v ≡ None → lies_in_frame (offsets x) v ≡ false
        → c.g.flags func v ≡ false → (v ≡ begin_of x.function) ⊎ (value_in env v ≡ Value.Poison)
    left_out v none outside off = ⊎_elim (λ e. inl e) (λ e. inr (kept_out (c.g.keep func p) values v e))
        (unhanded c func x is w j p number v none outside off)

    -- the first slot that is made anew
    first_anew_by : (q : Point) → renewed_from (c.g.flags func) (edged x) 0 ≡ Some q
        → HasFirstAnew c.b c.g func env
    first_anew_by q e =
        let z = next_at x (entry_there x is) (c.g.flags func) 0 q e in
        let n : IsNextAt (c.g.flags func) (instrs_at x 0) 0 z.next = z.found_there in
        record {
          first = z.next;
          name = n.name;
          ty = n.ty;
          align = n.align;
          is = ap (λ (f : Function). renewed_from (c.g.flags func) f 0) same ∙ e ∙ ap Some z.is;
          there = n.there;
          unkept = alloca_unkept x is n.name (entry_alloca z.next n.name n.align n.ty n.there);
          outside = w.outside n.name n.flagged;
          good = (fronts_good c func x is w).good;
          no_begin = (fronts_good c func x is w).no_begin;
          unhanded = λ v l outside.
              let t : HasTaken (instrs_at x 0) z.next v = taken_at (instrs_at x 0) z.next v l in
              let among = entry_alloca t.at v t.align t.ty t.there in
              ⊎_elim
              (λ begin. absurd (begin_no_alloca x is w.begins
              (subst (λ (u : ℕ). IsListed u (allocas_of (edged x))) begin among)))
              (λ none. none)
              (left_out v (alloca_unkept x is v among) outside
              (n.before t.at v t.align t.ty (omega arith) t.before t.there));
        }

    -- or none is
    module _ (label : ℕ) (none : renewed_from (c.g.flags func) (edged x) 0 ≡ None)
        (of : IsLabelOf c func is w (all.returns func coroutine) label j) where
      off : (v : ℕ) → c.g.flags func v ≡ false
      off v = on (c.g.flags func v) refl
        where
          on : (b : Bool) → c.g.flags func v ≡ b → c.g.flags func v ≡ false
          on false e = e
          on true e =
              let m : IsMadeOnce (edged x) v = made_there v e in
              none_at x (entry_there x is) (c.g.flags func) 0 none m.at v m.align m.ty (omega arith)
              (instr_in x (edged x) refl 0 m.at (Instr.Alloca v m.ty m.align) m.stands)

      unrooted : (v : ℕ) → c.g.roots func v ≡ None
      unrooted v = on (c.g.roots func v) refl
        where
          on : (o : Option ℕ) → c.g.roots func v ≡ o → c.g.roots func v ≡ None
          on None e = e
          on (Some a) e = absurd (false≢true (sym (off a) ∙ ((waking.slots.each func).rooted v a e).0))

      pub none_anew_by : HasNoneAnew c.b c.g func (kept (c.g.keep func p) values) label j
      none_anew_by = record {
        none = ap (λ (f : Function). renewed_from (c.g.flags func) f 0) same ∙ none;
        unrooted = unrooted;
        fronts = fronts_good c func x is w;
        unhanded = λ v unkept outside. left_out v unkept outside (off v);
        unslotted = λ v k told. sym (w.roots v k told) ∙ unrooted v;
        edge = edge_block c func is w (all.returns func coroutine) label j of;
      }

    pub anew_or_none : (label : ℕ) → IsLabelOf c func is w (all.returns func coroutine) label j
        → HasFirstAnew c.b c.g func (kept (c.g.keep func p) values)
        ⊎ HasNoneAnew c.b c.g func (kept (c.g.keep func p) values) label j
    anew_or_none label of = on (renewed_from (c.g.flags func) (edged x) 0) refl
      where
        on : (o : Option Point) → renewed_from (c.g.flags func) (edged x) 0 ≡ o
            → HasFirstAnew c.b c.g func (kept (c.g.keep func p) values)
            ⊎ HasNoneAnew c.b c.g func (kept (c.g.keep func p) values) label j
        on None e = inr (none_anew_by label e of)
        on (Some q) e = inl (first_anew_by q e)

-- ---- the instance

module _ (c : Setting) (all : KeepsAll c) (waking : KeepsWaking c) (s t : State) (r : AreBuiltOf c.b s t)
    (k : AreOfRuns c s t r) (may : MayWake c s) (v : Value) (y : Sleeper) (finds : sleeper_at s v ≡ Ok y) where
  pub asleep : IsAsleepAt s y
  asleep = asleep_there s v y finds

  abbrev own : ℕ
  own = y.instance.coroutine

  abbrev f : Framing
  f = c.b.framing own

  beside : (z : Instance) × (slice_get t.instances y.number ≡ Some z) × AreInstances c.b r.homes t y.instance z
  beside = other_instance c.b s t r y.number y.instance asleep.got

  pub coroutine_there : is_coroutine c.b own ≡ true
  coroutine_there = beside.2.is_coroutine

  -- its suspend has a number
  pub order_there : (j : ℕ) × IsSuspendNumber (c.b.framing own) j y.suspend
  order_there =
      let q = subst (λ (e : Status). IsStatus c.b r.homes t y.instance beside.0 e beside.0.status) asleep.status
      beside.2.status in
      (q.1, q.3)

  abbrev framing : IsFraming (c.b.framing own)
  framing = is c all waking own coroutine_there

  abbrev wakeable : IsWakeable c own (c.b.framing own)
  wakeable = w c all waking own coroutine_there

  begun_value : value_in y.values (begin_of f.function) ≡ frame_address_of y.instance
  begun_value =
      let led : AreLed (none_counts own) (function_at c.g.given.code own) y.instance.slots
      (frame_address_of y.instance) y.values =
      subst (IsLedStatus (none_counts own) (function_at c.g.given.code own) y.instance.slots
      (frame_address_of y.instance)) asleep.status
      (asleep_at c.g.given.code none_counts s.instances y.number y.instance asleep.got may.led.instances) in
      led.begun (begin_of f.function)
      (ap Rattle.pass_frames_proof.specs.run_framed.Framed.begin_name (same c all waking own coroutine_there) ∙ wakeable.begins)

  pub begun_now : (value_in (kept (c.g.keep own y.suspend) y.values) (begin_of f.function) ≡ Value.Poison)
      ⊎ (value_in (kept (c.g.keep own y.suspend) y.values) (begin_of f.function) ≡ frame_address_of y.instance)
  begun_now = on (c.g.keep own y.suspend (begin_of f.function)) refl
    where
      on : (b : Bool) → c.g.keep own y.suspend (begin_of f.function) ≡ b
          → (value_in (kept (c.g.keep own y.suspend) y.values) (begin_of f.function) ≡ Value.Poison)
          ⊎ (value_in (kept (c.g.keep own y.suspend) y.values) (begin_of f.function) ≡ frame_address_of y.instance)
      on false e = inl (kept_out (c.g.keep own y.suspend) y.values (begin_of f.function) e)
      on true e = inr (kept_at (c.g.keep own y.suspend) y.values (begin_of f.function) e ∙ begun_value)

  module _ (label : ℕ) (of : (j : ℕ) → IsSuspendNumber (c.b.framing own) j y.suspend
      → IsLabelOf c own framing wakeable (all.returns own coroutine_there) label j) where
    pub led_to : (j : ℕ) → IsSuspendNumber (c.b.framing own) j y.suspend
        → entry (plan (c.b.framing own)).returns label ≡ Some j
    led_to j n = returns_there c own framing wakeable (all.returns own coroutine_there) label j (of j n)

    pub one_number : (j : ℕ) → IsSuspendNumber (c.b.framing own) j y.suspend → j ≡ order_there.0
    one_number j n =
        let both : Some j ≡ Some order_there.0 = sym (led_to j n) ∙ led_to order_there.0 order_there.1 in cc

    abbrev pub sleeping : IsSleeping c.b c.g s label
    sleeping = record {
      number = y.number;
      instance = y.instance;
      suspend = y.suspend;
      env = y.values;
      there = asleep.got;
      status = asleep.status;
      unfreed = may.unfreed y.number y.instance asleep.got
          (ap Rattle.pass_frames_proof.specs.run_source.State.is_suspended asleep.status);
      small =
          let first = (instances_placed s k.slots).starts y.number y.instance asleep.got in
          omega (arith, first);
      order = order_there.0;
      returns = led_to order_there.0 order_there.1;
      numbered = one_number;
      handed = handed c own f framing wakeable order_there.0 y.suspend order_there.1 y.values;
      gone = gone c own f framing wakeable order_there.0 y.suspend order_there.1 y.values;
      begun = begun_now;
      begins = wakeable.framed_begins;
      begin_low =
          let low = (begin_plain f framing).low in
          let wide = edged_framed f in
          omega (arith, low, wide);
    }
