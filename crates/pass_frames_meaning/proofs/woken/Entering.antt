-- Slots that are made anew are followed, one after another.
use Rattle.std.proofs.Common.{◌≡◌, ◌≢◌, ◌⊎◌, ◌∷◌, ◌++◌, [], zero, suc, inl, inr, ⊎_elim, ℕ, ◌+◌, ◌<◌, ◌≤◌, Bool, true, false, List, length, take, Option, Some, None, refl, sym, ap, ◌∙◌, subst, arith}
use Rattle.std.proofs.lemmas.Bool.{cases_lt, false≢true}
use Rattle.pass_frames_proof.specs.ir_paths.declared.point.Point.{Point}
use Rattle.std.specs.Prelude.{slice_get}
use Rattle.pass_frames_proof.specs.flow_solver.Paths.{IsListed}
use Rattle.pass_frames_proof.specs.ir_base.declared.outcome.Outcome.{Outcome}
use Rattle.pass_frames_proof.specs.ir_model.Layout.{extent_of, extent_or}
use Rattle.pass_frames_proof.specs.ir_model.Names.{function_at}
use Rattle.pass_frames_proof.specs.ir_model.Ty.{Ty}
use Rattle.pass_frames_proof.specs.ir_model.declared.instr.Instr.{Instr}
use Rattle.pass_frames_proof.specs.ir_model.declared.module.Function.{Function}
use Rattle.pass_frames_proof.specs.ir_model.declared.module.TypeItem.{TypeItem}
use Rattle.pass_frames_proof.specs.ir_paths.Slots.{allocas_in, allocas_of}
use Rattle.pass_frames_proof.specs.pass_cells.Kept.{entry}
use Rattle.pass_frames_proof.specs.pass_cells.declared.plan.KeptValue.{KeptValue}
use Rattle.pass_frames_proof.specs.pass_frames.Framed.{begin_of}
use Rattle.pass_frames_meaning.proofs.others.Names.{result_low}
use Rattle.pass_frames_meaning.proofs.others.Returns.{instr_in}
use Rattle.pass_frames_meaning.proofs.slotted.Facts.{slots_there}
use Rattle.pass_frames_meaning.proofs.woken.Edges.{IsLabelOf, destroy_of, edge_block, resume_of, returns_there}
use Rattle.pass_frames_meaning.proofs.woken.Flagged.{HasTaken, IsNextAt, IsNextPoint, fetched_entry, next_at, none_at, taken_at}
use Rattle.pass_frames_meaning.proofs.woken.Fronts.{fronts_good}
use Rattle.pass_frames_meaning.proofs.woken.Handed.{unhanded}
use Rattle.pass_frames_meaning.proofs.woken.Own.{joined_left, own_before, own_behind, taken_listed}
use Rattle.pass_frames_meaning.proofs.woken.Rooted.{own_root}
use Rattle.pass_frames_meaning.proofs.woken.Sleeping.{entry_alloca, is, made_there, same, w}
use Rattle.pass_frames_meaning.proofs.woken.Unkept.{alloca_near, alloca_unkept, begin_no_alloca}
use Rattle.pass_frames_meaning.specs.Setting.{AreOfRuns, KeepsAll, Setting}
use Rattle.pass_frames_meaning.specs.Woken.{IsOnWay, IsWakeable, KeepsWaking, MayEnter}
use Rattle.pass_frames_proof.proofs.anew.Last.{last_followed as last_anew}
use Rattle.pass_frames_proof.proofs.anew.Next.{next_followed as next_anew}
use Rattle.pass_frames_proof.proofs.entering.Stand.{between}
use Rattle.pass_frames_proof.proofs.ramps.Markers.{none_marked}
use Rattle.pass_frames_proof.proofs.ramps.Plain.{entry_there}
use Rattle.pass_frames_proof.proofs.suspending.Given.{edged_framed}
use Rattle.pass_frames_proof.specs.Anew.{IsAtAnew}
use Rattle.pass_frames_proof.specs.Entering.{AreAllocasBetween, allocas_up_to, front_allocas}
use Rattle.pass_frames_proof.specs.Followed.{IsFollowed}
use Rattle.pass_frames_proof.specs.Framings.{IsFraming}
use Rattle.pass_frames_proof.specs.Places.{Framing, edged, instrs_at, offsets, plan}
use Rattle.pass_frames_proof.specs.Related.{AreBuiltOf, IsKeptValue, is_coroutine}
use Rattle.pass_frames_proof.specs.pass_proofs.addresses.rules.Addresses.{lies_in_frame}
use Rattle.pass_frames_proof.specs.pass_renewed_proof.Renewed.{renewed_from}
use Rattle.pass_frames_proof.specs.pass_renewed_proof.SlotRules.{IsMadeOnce}
use Rattle.pass_frames_proof.specs.pass_renewed_proof.Steps.{given_at}
use Rattle.pass_frames_proof.specs.run_memory.declared.pointer.Value.{Value}
use Rattle.pass_frames_proof.specs.run_source.declared.state.Mode.{Mode}
use Rattle.pass_frames_proof.specs.run_source.declared.state.State.{State}
use Rattle.pass_frames_proof.specs.run_step.Step.{AtInstr, fetch}
use Rattle.pass_frames_proof.specs.run_step.Values.{Env, pointer_to, value_in}

-- a name past the end of a table has no value
past_poison : (env : Env) (v : ℕ) → length env ≤ v → value_in env v ≡ Value.Poison
past_poison [] v le = refl
past_poison (o ∷ env) zero le = absurd (omega (arith, le))
past_poison (o ∷ env) (suc v) le = past_poison env v (omega (arith, le))

module _ (c : Setting) (all : KeepsAll c) (waking : KeepsWaking c) (s t : State) (r : AreBuiltOf c.b s t)
    (k : AreOfRuns c s t r) (runs : s.outcome ≡ Outcome.Running)
    (coroutine : is_coroutine c.b s.top.func ≡ true) (may : MayEnter c s t) (from label : ℕ)
    (mode : s.top.mode ≡ Mode.Entering from label) where
  abbrev func : ℕ
  func = s.top.func

  abbrev x : Framing
  x = c.b.framing func

  abbrev framing : IsFraming x
  framing = is c all waking func coroutine

  abbrev wakeable : IsWakeable c func x
  wakeable = w c all waking func coroutine

  code : function_at c.g.given.code func ≡ edged x
  code = same c all waking func coroutine

  abbrev Follows : Type 0
  Follows = IsFollowed c.b c.g s t

  h : IsOnWay c s label
  h = may.way from label mode

  abbrev at : ℕ
  at = s.top.at

  abbrev one : Instr
  one = Instr.Alloca h.name h.ty h.align

  -- instructions of the entry
  in_entry : (q : ℕ) (i : Instr) → fetch (function_at c.g.given.code func) 0 q ≡ AtInstr i
      → slice_get (instrs_at x 0) q ≡ Some i
  in_entry q i e = instr_in x (function_at c.g.given.code func) code 0 q i e

  here : slice_get (instrs_at x 0) at ≡ Some one
  here = in_entry at one h.there

  among : IsListed h.name (allocas_of (edged x))
  among = entry_alloca c all waking func coroutine at h.name h.align h.ty here

  -- and back
  fetched : (q : ℕ) (i : Instr) → slice_get (instrs_at x 0) q ≡ Some i → fetch (edged x) 0 q ≡ AtInstr i
  fetched = fetched_entry x (entry_there x framing)

  -- the alloca of a name that is made anew, and where it stands
  record IsPlaced (v : ℕ) : Type 0 where
    made : IsMadeOnce (edged x) v
    stands : slice_get (instrs_at x 0) made.at ≡ Some (Instr.Alloca v made.ty made.align)
    place : (made.at < at) ⊎ ((v ≡ h.name) ⊎ (at + 1 ≤ made.at))

  same_alloca : (q v u a b : ℕ) (ty ty' : Ty) → slice_get (instrs_at x 0) q ≡ Some (Instr.Alloca v ty a)
      → slice_get (instrs_at x 0) q ≡ Some (Instr.Alloca u ty' b) → v ≡ u
  same_alloca q v u a b ty ty' e f =
      let both : Some (Instr.Alloca v ty a) ≡ Some (Instr.Alloca u ty' b) = sym e ∙ f in cc

  placed : (v : ℕ) → c.g.flags func v ≡ true → IsPlaced v
  placed v flag =
      let m : IsMadeOnce (edged x) v = made_there c all waking func coroutine v flag in
      let there = instr_in x (edged x) refl 0 m.at (Instr.Alloca v m.ty m.align) m.stands in
      record {
        made = m;
        stands = there;
        place = ⊎_elim (λ lt. inl lt) (λ le. ⊎_elim (λ lt. inr (inr (omega (arith, lt))))
            (λ ge.
            let eq : m.at ≡ at = omega (arith, le, ge) in
            inr (inl (same_alloca at v h.name m.align h.align m.ty h.ty
            (subst (λ (q : ℕ). slice_get (instrs_at x 0) q ≡ Some (Instr.Alloca v m.ty m.align)) eq there) here)))
            (cases_lt at m.at)) (cases_lt m.at at);
      }

  -- two allocas of such a name are one
  one_place : (v align : ℕ) (ty : Ty) (q : ℕ) (flag : c.g.flags func v ≡ true)
      → slice_get (instrs_at x 0) q ≡ Some (Instr.Alloca v ty align) → q ≡ (placed v flag).made.at
  one_place v align ty q flag e =
      ((placed v flag).made.alone 0 q (ap given_at (fetched q (Instr.Alloca v ty align) e))).1

  of : IsLabelOf c func framing wakeable (all.returns func coroutine) label h.order
  of = ⊎_elim
      (λ e. subst (λ (l : ℕ). IsLabelOf c func framing wakeable (all.returns func coroutine) l h.order) (sym e)
      (resume_of c func framing wakeable (all.returns func coroutine) h.order h.suspend h.number))
      (λ e. subst (λ (l : ℕ). IsLabelOf c func framing wakeable (all.returns func coroutine) l h.order) (sym e)
      (destroy_of c func framing wakeable (all.returns func coroutine) h.order h.suspend h.number)) h.leads

  room : length s.top.values ≡ length (edged x).names
  room = k.sound.top.values ∙ ap (λ (f : Function). length f.names) code

  at_anew : IsAtAnew c.b c.g s h.name h.ty h.align from label h.order
  at_anew = record {
    here = record {
      runs = runs;
      coroutine = coroutine;
      entry_block = h.entry_block;
      there = here;
      aligned = (waking.slots.each func).aligned h.name at h.ty h.align h.flagged h.there;
    };
    mode = mode;
    flagged = h.flagged;
    small = (all.steps func).sizes 0 at h.name h.ty h.align h.there;
    sized = ap (λ (ts : List TypeItem). (extent_or (extent_of ts h.ty)).size) all.same_types;
    outside = wakeable.outside h.name h.flagged;
    unmarked = none_marked c.b.framed_code func x framing wakeable.rules.rules h.name
        (wakeable.unmarked h.name h.flagged);
    unkept = alloca_unkept x framing h.name among;
    uncelled = alloca_near x framing h.name among;
    low = result_low x framing 0 at h.name one here refl;
    room = room;
    wide = edged_framed x;
    returns = returns_there c func framing wakeable (all.returns func coroutine) label h.order of;
    fronts = fronts_good c func x framing wakeable;
  }

  -- ---- values

  -- neither made anew nor in the frame
  left_out : (v : ℕ) → entry (plan x).places v ≡ None → lies_in_frame (offsets x) v ≡ false
      → c.g.flags func v ≡ false → (v ≡ begin_of x.function) ⊎ (value_in s.top.values v ≡ Value.Poison)
  left_out v none outside off = ⊎_elim (λ e. inl e) (λ e. inr (h.unhanded v e off))
      (unhanded c func x framing wakeable h.order h.suspend h.number v none outside off)

  alloca_out : (q v align : ℕ) (ty : Ty) → slice_get (instrs_at x 0) q ≡ Some (Instr.Alloca v ty align)
      → lies_in_frame (offsets x) v ≡ false → c.g.flags func v ≡ false → value_in s.top.values v ≡ Value.Poison
  alloca_out q v align ty e outside off =
      let l = entry_alloca c all waking func coroutine q v align ty e in
      ⊎_elim
      (λ begin. absurd (begin_no_alloca x framing wakeable.begins
      (subst (λ (u : ℕ). IsListed u (allocas_of (edged x))) begin l)))
      (λ none. none) (left_out v (alloca_unkept x framing v l) outside off)

  new_poison : (v : ℕ) → length (edged x).names ≤ v → value_in s.top.values v ≡ Value.Poison
  new_poison v le = past_poison s.top.values v (let long = room in omega (arith, long, le))

  -- so it is with an alloca in front that isn't made yet and that isn't made anew
  still : (v : ℕ) → IsListed v (allocas_in (front_allocas x))
      → (IsListed v (allocas_in (allocas_up_to x at)) → ⊥) → v ≢ h.name
      → ((q align : ℕ) (ty : Ty) → at + 1 ≤ q → slice_get (instrs_at x 0) q ≡ Some (Instr.Alloca v ty align)
      → lies_in_frame (offsets x) v ≡ false → c.g.flags func v ≡ false)
      → value_in s.top.values v ≡ Value.Poison
  still v l before apart off = ⊎_elim
      (λ lt. let f = wakeable.fronts v l lt in own f.0 f.1 f.2 f.3 f.4)
      (λ le. new_poison v le)
      (cases_lt v (length (edged x).names))
    where
      own : (q align : ℕ) (ty : Ty) → slice_get (instrs_at x 0) q ≡ Some (Instr.Alloca v ty align)
          → lies_in_frame (offsets x) v ≡ false → value_in s.top.values v ≡ Value.Poison
      own q align ty e outside =
          let l = entry_alloca c all waking func coroutine q v align ty e in
          ⊎_elim
          (λ lt. absurd (before (own_before x framing q v align ty e (alloca_unkept x framing v l) outside at lt)))
          (λ le. ⊎_elim
          (λ lt. alloca_out q v align ty e outside (off q align ty (omega (arith, lt)) e outside))
          (λ ge.
          let eq : q ≡ at = omega (arith, le, ge) in
          absurd (apart (same_alloca at v h.name align h.align ty h.ty
          (subst (λ (n : ℕ). slice_get (instrs_at x 0) n ≡ Some (Instr.Alloca v ty align)) eq e) here)))
          (cases_lt at q)) (cases_lt q at)

  -- ---- another one follows

  module _ (p : Point) (e : renewed_from (c.g.flags func) (edged x) (at + 1) ≡ Some p) where
    abbrev z : IsNextPoint x (entry_there x framing) (c.g.flags func) (at + 1) p
    z = next_at x (entry_there x framing) (c.g.flags func) (at + 1) p e

    abbrev n : IsNextAt (c.g.flags func) (instrs_at x 0) (at + 1) z.next
    n = z.found_there

    next_among : IsListed n.name (allocas_of (edged x))
    next_among = entry_alloca c all waking func coroutine z.next n.name n.align n.ty n.there

    apart_now : n.name ≢ h.name
    apart_now same =
        let first = one_place n.name n.align n.ty z.next n.flagged n.there in
        let second = one_place n.name h.align h.ty at n.flagged
        (here ∙ ap (λ (v : ℕ). Some (Instr.Alloca v h.ty h.align)) (sym same)) in
        let le : at + 1 ≤ z.next = n.behind in
        absurd (omega (arith, first, second, le))

    handed_next : (v : ℕ) → IsListed v (allocas_in (take z.next (instrs_at x 0)))
        → lies_in_frame (offsets x) v ≡ false
        → IsListed v (allocas_in (take at (instrs_at x 0)))
        ⊎ ((v ≡ h.name) ⊎ (value_in s.top.values v ≡ Value.Poison))
    handed_next v l outside =
        let t : HasTaken (instrs_at x 0) z.next v = taken_at (instrs_at x 0) z.next v l in
        ⊎_elim (λ lt. inl (taken_listed (instrs_at x 0) at t.at v t.align t.ty t.there lt))
        (λ le. ⊎_elim
        (λ lt. inr (inr (alloca_out t.at v t.align t.ty t.there outside
        (n.before t.at v t.align t.ty (omega (arith, lt)) t.before t.there))))
        (λ ge.
        let eq : t.at ≡ at = omega (arith, le, ge) in
        inr (inl (same_alloca at v h.name t.align h.align t.ty h.ty
        (subst (λ (q : ℕ). slice_get (instrs_at x 0) q ≡ Some (Instr.Alloca v t.ty t.align)) eq t.there) here)))
        (cases_lt at t.at)) (cases_lt t.at at)

    between_next : (v : ℕ) → IsListed v (allocas_in (allocas_up_to x z.next))
        → (IsListed v (allocas_in (allocas_up_to x at)) → ⊥) → v ≢ h.name → value_in s.top.values v ≡ Value.Poison
    between_next v l before apart =
        let b : AreAllocasBetween x z.next z.next = between x at one here z.next z.next (omega arith) in
        still v
        (subst (λ (js : List Instr). IsListed v (allocas_in js)) (sym b.is)
        (joined_left v (allocas_up_to x z.next) (b.line ++ b.behind) l)) before apart
        (λ q align ty le there outside.
        n.before q v align ty le (near q align ty there outside) there)
      where
        near : (q align : ℕ) (ty : Ty) → slice_get (instrs_at x 0) q ≡ Some (Instr.Alloca v ty align)
            → lies_in_frame (offsets x) v ≡ false → q < z.next
        near q align ty there outside = ⊎_elim (λ lt. lt)
            (λ le. absurd (own_behind x framing q v align ty there
            (alloca_unkept x framing v (entry_alloca c all waking func coroutine q v align ty there)) outside
            (fronts_good c func x framing wakeable).different z.next le l)) (cases_lt q z.next)

    next_followed : Follows
    next_followed =
        next_anew c.b c.g all.given s t r h.name h.ty h.align from label h.order at_anew (slots_there s k.slots)
        (slots_there t k.other_slots) (record {
          next = z.next;
          other = n.name;
          ty = n.ty;
          align = n.align;
          is = ap (λ (f : Function). renewed_from (c.g.flags func) f (at + 1)) code ∙ e ∙ ap Some z.is;
          there = n.there;
          unkept = alloca_unkept x framing n.name next_among;
          outside = wakeable.outside n.name n.flagged;
          apart = apart_now;
          handed = handed_next;
          between = between_next;
        })

  -- ---- it is the last one

  module _ (e : renewed_from (c.g.flags func) (edged x) (at + 1) ≡ None) where
    off_behind : (q v align : ℕ) (ty : Ty) → at + 1 ≤ q
        → slice_get (instrs_at x 0) q ≡ Some (Instr.Alloca v ty align) → c.g.flags func v ≡ false
    off_behind = none_at x (entry_there x framing) (c.g.flags func) (at + 1) e

    -- what is made anew was made before, or is made now
    made_now : (v : ℕ) → c.g.flags func v ≡ true
        → ((q align : ℕ) × (ty : Ty) × (slice_get (instrs_at x 0) q ≡ Some (Instr.Alloca v ty align)) × (q < at))
        ⊎ (v ≡ h.name)
    made_now v flag =
        let m = placed v flag in
        ⊎_elim (λ lt. inl (m.made.at, m.made.align, m.made.ty, m.stands, lt))
        (λ other. ⊎_elim (λ same. inr same)
        (λ le. absurd (false≢true (sym (off_behind m.made.at v m.made.align m.made.ty le m.stands) ∙ flag))) other)
        m.place

    handed_last : (v : ℕ) → entry (plan x).places v ≡ None → lies_in_frame (offsets x) v ≡ false
        → ((v ≡ begin_of x.function) ⊎ IsListed v (allocas_in (take at (instrs_at x 0))))
        ⊎ ((v ≡ h.name) ⊎ (value_in s.top.values v ≡ Value.Poison))
    handed_last v unkept outside = on (c.g.flags func v) refl
      where
        on : (b : Bool) → c.g.flags func v ≡ b
            → ((v ≡ begin_of x.function) ⊎ IsListed v (allocas_in (take at (instrs_at x 0))))
            ⊎ ((v ≡ h.name) ⊎ (value_in s.top.values v ≡ Value.Poison))
        on false d = ⊎_elim (λ begin. inl (inl begin)) (λ none. inr (inr none)) (left_out v unkept outside d)
        on true d = ⊎_elim
            (λ m. inl (inr (taken_listed (instrs_at x 0) at m.0 v m.1 m.2 m.3 m.4)))
            (λ same. inr (inl same)) (made_now v d)

    rooted_last : (v slot : ℕ) (kv : KeptValue) → IsKeptValue x v kv → kv.slot ≡ Some slot
        → (entry (plan x).places slot ≡ None)
        × ((slot ≡ h.name) ⊎ ((n : ℕ) × (value_in s.top.values slot ≡ pointer_to n)))
    rooted_last v slot kv told slotted =
        let flag : c.g.flags func slot ≡ true =
        ((waking.slots.each func).rooted v slot (wakeable.roots v kv told ∙ slotted)).0 in
        let m = placed slot flag in (
          alloca_unkept x framing slot
              (entry_alloca c all waking func coroutine m.made.at slot m.made.align m.made.ty m.stands),
          ⊎_elim
              (λ q. inr (h.made q.0 slot q.1 q.2
              (ap (λ (f : Function). fetch f 0 q.0) code ∙ fetched q.0 (Instr.Alloca slot q.2 q.1) q.3) q.4 flag))
              (λ same. inl same) (made_now slot flag),
        )

    own_roots_last : (v root : ℕ) → entry (plan x).places v ≡ None → c.g.roots func v ≡ Some root
        → (root ≡ v) ⊎ ((v ≢ h.name) × (value_in s.top.values v ≡ Value.Poison))
    own_roots_last v root unkept told = ⊎_elim (λ same. inl same)
        (λ out. inr (
          (λ same. false≢true (sym out.0 ∙ ap (c.g.flags func) same ∙ h.flagged)),
          h.unhanded v out.1 out.0,
        )) (own_root c all waking func coroutine h.order h.suspend h.number v root unkept told)

    last_followed : Follows
    last_followed =
        last_anew c.b c.g all.given s t r h.name h.ty h.align from label h.order at_anew (slots_there s k.slots)
        (slots_there t k.other_slots) (record {
          none = ap (λ (f : Function). renewed_from (c.g.flags func) f (at + 1)) code ∙ e;
          edge = edge_block c func framing wakeable (all.returns func coroutine) label h.order of;
          handed = handed_last;
          behind = λ v l before apart. still v l before apart
              (λ q align ty le there outside. off_behind q v align ty le there);
          roots = wakeable.roots;
          own_roots = own_roots_last;
          rooted = rooted_last;
        }) may.cells

  pub entering_followed : Follows
  entering_followed = on (renewed_from (c.g.flags func) (edged x) (at + 1)) refl
    where
      on : (o : Option Point) → renewed_from (c.g.flags func) (edged x) (at + 1) ≡ o → Follows
      on None e = last_followed e
      on (Some p) e = next_followed p e
