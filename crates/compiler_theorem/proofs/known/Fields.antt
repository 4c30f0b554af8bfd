-- The field of a slot is as large and as aligned as the alloca of the slot says.
use Rattle.std.proofs.Common.{◌≡◌, ◌⊎◌, inl, inr, ⊎_elim, ℕ, ◌+◌, ◌<◌, ◌≤◌, ◌%◌, Bool, true, false}
use Rattle.std.proofs.Common.{List, Option, Some, None, refl, sym, ap, ◌∙◌, subst, arith}
use Rattle.std.proofs.lemmas.Option.{slice_get_within}
use Rattle.std.specs.Prelude.{max, min, option_to_list, slice_get, slice_index_or, ◌==◌, ◌||◌, if◌then◌else◌, ◌^◌, ◌-◌}
use Rattle.compiler_theorem.proofs.known.Classes.{now}
use Rattle.compiler_theorem.proofs.known.Names.{rules_there}
use Rattle.compiler_theorem.proofs.parts.Held.{held_slots}
use Rattle.compiler_theorem.proofs.theorem.Built.{coroutine_there}
use Rattle.compiler_theorem.proofs.theorem.Facts.{fit_fields}
use Rattle.compiler_theorem.proofs.theorem.Promises.{contents, each_there, field_there, good, held_at, layout}
use Rattle.compiler_theorem.proofs.theorem.Renewing.{all_kept}
use Rattle.compiler_theorem.specs.theorem.Anew.{Anew, IsAnewOf}
use Rattle.compiler_theorem.specs.theorem.Asked.{asking}
use Rattle.compiler_theorem.specs.theorem.Entries.{IsEntryCall, Run}
use Rattle.compiler_theorem.specs.theorem.Lowered.{HasFewBytes, IsLowered, Lowered, early, edged}
use Rattle.compiler.proofs.whole.lowered_sources.Sources.{early_rules}
use Rattle.compiler.specs.flow_solver.Paths.{IsListed}
use Rattle.compiler.specs.frame_classes.declared.class.SlotClass.{SlotClass}
use Rattle.compiler.specs.frame_contents.Frames.{AreContents}
use Rattle.compiler.specs.frame_contents.Held.{crossing_values, field_of, fields_of, frame_slots, position_of, slot_held}
use Rattle.compiler.specs.frame_contents.Held.{slot_kind, value_held}
use Rattle.compiler.specs.frame_contents.declared.contents.Contents.{Contents}
use Rattle.compiler.specs.frame_contents.declared.held.Holding.{Holding}
use Rattle.compiler.specs.frame_crossing.Values.{values_of}
use Rattle.compiler.specs.frame_good.Frames.{AreInConflict, HasFitFields}
use Rattle.compiler.specs.frame_good.Good.{IsGoodLayout, is_alignment}
use Rattle.compiler.specs.frame_layout.Layouts.{placed_or}
use Rattle.compiler.specs.frame_layout.declared.layout.Field.{Field}
use Rattle.compiler.specs.frame_layout.declared.layout.FieldKind.{FieldKind}
use Rattle.compiler.specs.frame_layout.declared.layout.Layout.{Layout}
use Rattle.compiler.proofs.ir_laws.facts.Truth.{equal_numbers}
use Rattle.compiler.specs.ir_model.Layout.{size_of}
use Rattle.compiler.specs.ir_model.Names.{function_at, no_function}
use Rattle.compiler.specs.ir_model.Ty.{Ty}
use Rattle.compiler.specs.ir_model.declared.instr.Instr.{Instr}
use Rattle.compiler.specs.ir_model.declared.module.Function.{Function}
use Rattle.compiler.specs.ir_model.declared.module.Module.{Module}
use Rattle.compiler.proofs.ir_paths.Search.{either}
use Rattle.compiler.specs.ir_paths.Slots.{allocas_of, has_name, promise_of}
use Rattle.compiler.specs.ir_paths.Windows.{instr_at}
use Rattle.compiler.specs.ir_paths.declared.point.Point.{Point}
use Rattle.compiler.specs.pass_frames.Tables.{offset_at}
use Rattle.pass_frames_meaning.specs.Sized.{IsSizedAt}
use Rattle.pass_frames_meaning.specs.pass_frames_proof.Places.{Framing}
use Rattle.pass_frames_meaning.specs.pass_frames_proof.Slotted.{IsSlotField}
use Rattle.compiler.proofs.pass_proofs.early.save_simulation.Suspending.{fetch_at}
use Rattle.compiler.proofs.pass_kept_proof.Read.{listed_by_name}
use Rattle.compiler.proofs.pass_proofs.edges.paths.Slots.{same_allocas}
use Rattle.compiler.proofs.pass_proofs.edges.paths.Windows.{instr_moved}
use Rattle.compiler.specs.pass_proofs.edges.paths.Spots.{moved}
use Rattle.pass_frames_meaning.specs.pass_renewed_proof.SlotRules.{IsMadeOnce}
use Rattle.pass_frames_meaning.specs.pass_renewed_proof.Steps.{given_at}
use Rattle.compiler.proofs.rule_laws.frames.alike_frames.Held.{crossing_holds}
use Rattle.compiler.proofs.rule_laws.frames.needed.Apart.{apart_no_value}
use Rattle.compiler.proofs.rule_laws.rules.source_rules.Slots.{HasAlloca, alloca_of}
use Rattle.compiler.specs.rule_laws.rules.function_rules.Kept.{KeepsFunctionRules}
use Rattle.run_accepted.proofs.Alive.{listed}
use Rattle.run_accepted.proofs.Once.{made_once}
use Rattle.compiler.specs.run_framed.Framed.{is_open_kind, layout_of}
use Rattle.compiler.specs.run_laws.changed.Changed.{Each}
use Rattle.compiler.specs.run_laws.memory.Standing.{IsAlignment}
use Rattle.compiler.specs.run_step.Step.{AtInstr, fetch}
use Rattle.compiler.specs.run_step.declared.world.Slot.{Slot}

-- ---- alignments

divides : (d a n : ℕ) → IsAlignment a → IsAlignment n → a ≤ n → d % n ≡ 0 → d % a ≡ 0
divides d a n (inl e) big le h = subst (λ (k : ℕ). d % k ≡ 0) (sym e) (omega arith)
divides d a n (inr (inl e)) big le h = subst (λ (k : ℕ). d % k ≡ 0) (sym e) (on big)
  where
    on : IsAlignment n → d % 2 ≡ 0
    on (inl f) = absurd (omega (arith, e, f, le))
    on (inr (inl f)) = subst (λ (k : ℕ). d % k ≡ 0) f h
    on (inr (inr (inl f))) = let g : d % 4 ≡ 0 = subst (λ (k : ℕ). d % k ≡ 0) f h in omega (arith, g)
    on (inr (inr (inr (inl f)))) = let g : d % 8 ≡ 0 = subst (λ (k : ℕ). d % k ≡ 0) f h in omega (arith, g)
    on (inr (inr (inr (inr f)))) = let g : d % 16 ≡ 0 = subst (λ (k : ℕ). d % k ≡ 0) f h in omega (arith, g)
divides d a n (inr (inr (inl e))) big le h = subst (λ (k : ℕ). d % k ≡ 0) (sym e) (on big)
  where
    on : IsAlignment n → d % 4 ≡ 0
    on (inl f) = absurd (omega (arith, e, f, le))
    on (inr (inl f)) = absurd (omega (arith, e, f, le))
    on (inr (inr (inl f))) = subst (λ (k : ℕ). d % k ≡ 0) f h
    on (inr (inr (inr (inl f)))) = let g : d % 8 ≡ 0 = subst (λ (k : ℕ). d % k ≡ 0) f h in omega (arith, g)
    on (inr (inr (inr (inr f)))) = let g : d % 16 ≡ 0 = subst (λ (k : ℕ). d % k ≡ 0) f h in omega (arith, g)
divides d a n (inr (inr (inr (inl e)))) big le h = subst (λ (k : ℕ). d % k ≡ 0) (sym e) (on big)
  where
    on : IsAlignment n → d % 8 ≡ 0
    on (inl f) = absurd (omega (arith, e, f, le))
    on (inr (inl f)) = absurd (omega (arith, e, f, le))
    on (inr (inr (inl f))) = absurd (omega (arith, e, f, le))
    on (inr (inr (inr (inl f)))) = subst (λ (k : ℕ). d % k ≡ 0) f h
    on (inr (inr (inr (inr f)))) = let g : d % 16 ≡ 0 = subst (λ (k : ℕ). d % k ≡ 0) f h in omega (arith, g)
divides d a n (inr (inr (inr (inr e)))) big le h = subst (λ (k : ℕ). d % k ≡ 0) (sym e) (on big)
  where
    on : IsAlignment n → d % 16 ≡ 0
    on (inl f) = absurd (omega (arith, e, f, le))
    on (inr (inl f)) = absurd (omega (arith, e, f, le))
    on (inr (inr (inl f))) = absurd (omega (arith, e, f, le))
    on (inr (inr (inr (inl f)))) = absurd (omega (arith, e, f, le))
    on (inr (inr (inr (inr f)))) = subst (λ (k : ℕ). d % k ≡ 0) f h

-- 0 stands for no alignment, which nothing is smaller than
alignment_or : (n : ℕ) → is_alignment n ≡ true → (n ≡ 0) ⊎ IsAlignment n
alignment_or n e = ⊎_elim (λ a. inl (equal_numbers n 0 a)) (λ a. inr (first a)) (either (n == 0) _ e)
  where
    first : ((n == 1) || ((n == 2) || ((n == 4) || ((n == 8) || (n == 16))))) ≡ true → IsAlignment n
    first h = ⊎_elim (λ a. inl (equal_numbers n 1 a))
        (λ a. inr (⊎_elim (λ b. inl (equal_numbers n 2 b))
        (λ b. inr (⊎_elim (λ c. inl (equal_numbers n 4 c))
        (λ c. inr (⊎_elim (λ d. inl (equal_numbers n 8 d)) (λ d. inr (equal_numbers n 16 d)) (either (n == 8) _ c)))
        (either (n == 4) _ b)))
        (either (n == 2) _ a)))
        (either (n == 1) _ h)

aligned_too : (d a n : ℕ) → IsAlignment a → is_alignment n ≡ true → a ≤ n → d % max n 1 ≡ 0 → d % a ≡ 0
aligned_too d a n small is le h = ⊎_elim none some (alignment_or n is)
  where
    above : (k : ℕ) → IsAlignment k → 1 ≤ k
    above k (inl e) = omega (arith, e)
    above k (inr (inl e)) = omega (arith, e)
    above k (inr (inr (inl e))) = omega (arith, e)
    above k (inr (inr (inr (inl e)))) = omega (arith, e)
    above k (inr (inr (inr (inr e)))) = omega (arith, e)

    none : n ≡ 0 → d % a ≡ 0
    none e = let x = above a small in absurd (omega (arith, e, x, le))

    some : IsAlignment n → d % a ≡ 0
    some big =
        let x = above n big in
        let same : max n 1 ≡ n = omega (arith, x) in
        divides d a n small big le (subst (λ (k : ℕ). d % k ≡ 0) same h)

-- ---- what is held of a slot

-- sizes of fields are cut
abbrev cut : ℕ → ℕ
cut n = min n (2 ^ 64 - 1)

record IsHeldSlot (m : Module) (f : Function) (classes : List SlotClass) (v : ℕ) (h : Holding) : Type 0 where
  framed : has_name (frame_slots f classes) v ≡ true
  point : Point
  ty : Ty
  align : ℕ
  stands : instr_at f point ≡ Some (Instr.Alloca v ty align)
  size : h.size ≡ cut (size_of m ty)
  aligned : h.align ≡ align
  opened : is_open_kind h.kind ≡ true

record HasOwnField (m : Module) (f : Function) (classes : List SlotClass) (v : ℕ) (l : Layout) (position : ℕ)
    : Type 0 where
  held : Holding
  slot : IsHeldSlot m f classes v held
  field : (size n : ℕ) → held.size ≡ size → held.align ≡ n → IsSlotField l (offset_at l position) size n

slot_opens : (promise : Option ℕ) (v : ℕ) → is_open_kind (slot_kind promise v) ≡ true
slot_opens promise v = on (has_name (option_to_list promise) v)
  where
    on : (b : Bool) → is_open_kind (if b then FieldKind.Promise else FieldKind.Slot) ≡ true
    on true = refl
    on false = refl

module _ (m : Module) (k : ℕ) (f : Function) (rules : KeepsFunctionRules m k f) (c : Contents)
    (are : AreContents m f c) (v : ℕ) (p : Point) (ty : Ty) (align : ℕ)
    (stands : instr_at f p ≡ Some (Instr.Alloca v ty align)) where
  abbrev IsOwn : Holding → Type 0
  IsOwn h = h.value ≡ v → IsHeldSlot m f c.classes v h

  no_value : (u size : ℕ) → has_name (crossing_values c.crossing) u ≡ true → IsOwn (value_held u size)
  no_value u size e same =
      absurd (crossing_holds (λ (w : ℕ). w ≡ v → ⊥) f c.crossing are.crossing_are
      (λ w l s. apart_no_value m k f rules v p (Instr.Alloca v ty align) stands refl refl
      (subst (λ (z : ℕ). IsListed z (values_of f)) s l)) u e same)

  own_slot : (q : Point) (r : ℕ) (u : Ty) (n : ℕ) → instr_at f q ≡ Some (Instr.Alloca r u n)
      → has_name (frame_slots f c.classes) r ≡ true → IsOwn (slot_held m (promise_of f) r u n)
  own_slot q r u n e in_frame same = record {
    framed = subst (λ (w : ℕ). has_name (frame_slots f c.classes) w ≡ true) same in_frame;
    point = q;
    ty = u;
    align = n;
    stands = subst (λ (w : ℕ). instr_at f q ≡ Some (Instr.Alloca w u n)) same e;
    size = refl;
    aligned = refl;
    opened = slot_opens (promise_of f) r;
  }

  all_own : Each IsOwn c.held
  all_own = subst (Each IsOwn) (sym are.held_are)
      (held_slots m f (has_name (crossing_values c.crossing)) (has_name (frame_slots f c.classes)) IsOwn no_value
      own_slot)

  -- what has its place is a slot of the frame
  pub slot_framed : (position : ℕ) → position_of c.held v ≡ Some position
      → has_name (frame_slots f c.classes) v ≡ true
  slot_framed position at =
      let z = held_at 0 c.held v position at in
      (each_there IsOwn c.held z.0 z.2 all_own z.3 z.4).framed

  -- ---- its field

  module _ (l : Layout) (good_one : IsGoodLayout k (fields_of f c.held) (AreInConflict f c) l) (fit : HasFitFields m f)
      (position : ℕ) (at : position_of c.held v ≡ Some position) where
    abbrev There : Type 0
    There = (n : ℕ) × (position ≡ 0 + n) × (h : Holding) × (slice_get c.held n ≡ Some h) × (h.value ≡ v)

    there : There
    there = held_at 0 c.held v position at

    abbrev h : Holding
    h = there.2

    got : slice_get c.held position ≡ Some h
    got = let same : position ≡ there.0 = omega (arith, there.1) in ap (slice_get c.held) same ∙ there.3

    held_slot : IsHeldSlot m f c.classes v h
    held_slot = each_there IsOwn c.held position h all_own got there.4

    field : slice_get (fields_of f c.held) position ≡ Some (field_of f h)
    field = field_there f c.held position h got

    field_is : (size n : ℕ) → h.size ≡ size → h.align ≡ n → IsSlotField l (offset_at l position) size n
    field_is size n same_size same_align =
        let good_field = good_one.each position (field_of f h) field in
        let shown = good_one.shown.each position
        (slice_get_within (fields_of f c.held) position (field_of f h) field) in
        let inside : offset_at l position + h.size ≤ l.size = good_field.inside in
        record {
          number = shown.0;
          field = placed_or (Some (field_of f h)) (offset_at l position);
          there = shown.1
              ∙ ap (λ (o : Option Field). Some (placed_or o (slice_index_or l.offsets position 0))) field;
          opened = held_slot.opened;
          from = omega arith;
          to = subst (λ (z : ℕ). offset_at l position + z ≤ offset_at l position + h.size) same_size (omega arith);
          inside = subst (λ (z : ℕ). offset_at l position + z ≤ l.size) same_size inside;
          behind = good_field.behind_header;
          aligned = λ a is le.
              aligned_too (offset_at l position) a h.align is ((fit c are).aligned position (field_of f h) field)
              (subst (λ (z : ℕ). a ≤ z) (sym same_align) le) good_field.aligned;
          in_aligned = subst (λ (z : ℕ). z ≤ l.align) same_align good_field.in_aligned;
        }

    own_field : HasOwnField m f c.classes v l position
    own_field = record { held = h; slot = held_slot; field = λ size n s k. field_is size n s k }

-- ---- of accepted sources

-- allocas of a name that is given once are one
module _ (f : Function) (v : ℕ) (once : IsMadeOnce f v) where
  at_once : (block at : ℕ) (ty : Ty) (align : ℕ) → fetch f block at ≡ AtInstr (Instr.Alloca v ty align)
      → fetch f 0 once.at ≡ AtInstr (Instr.Alloca v ty align)
  at_once block at ty align e =
      let x = once.alone block at (ap given_at e) in
      ap (λ (b : ℕ). fetch f b once.at) (sym x.0) ∙ ap (fetch f block) (sym x.1) ∙ e

  same_alloca : (block at : ℕ) (ty : Ty) (align : ℕ) → fetch f block at ≡ AtInstr (Instr.Alloca v ty align)
      → (other k : ℕ) (u : Ty) (n : ℕ) → fetch f other k ≡ AtInstr (Instr.Alloca v u n) → (ty ≡ u) × (align ≡ n)
  same_alloca block at ty align e other k u n d =
      let both : AtInstr (Instr.Alloca v ty align) ≡ AtInstr (Instr.Alloca v u n) =
      sym (at_once block at ty align e) ∙ at_once other k u n d in
      (cc, cc)

abbrev first_in : Option (ℕ × ℕ) → ℕ
first_in None = 0
first_in (Some p) = p.0

abbrev second_in : Option (ℕ × ℕ) → ℕ
second_in None = 0
second_in (Some p) = p.1

uncut : (n : ℕ) → n < 2 ^ 64 → cut n ≡ n
uncut n lt = omega (arith, lt)

module _ (l : Lowered) (low : IsLowered l) (few : HasFewBytes l) (a : Anew) (anew : IsAnewOf (early l) a) (r : Run)
    (entered : IsEntryCall l.source r) (func : ℕ) (coroutine : (function_at (early l) func).coroutine ≡ true)
    (u : List (ℕ × ℕ)) (slot : Slot) (is : IsSizedAt (edged l) u (function_at (edged l) func) slot) where
  abbrev x : Framing
  x = (asking l low a r).b.framing func

  abbrev f : Function
  f = function_at (early l) func

  abbrev g : Function
  g = function_at (edged l) func

  rules : KeepsFunctionRules (edged l) func (function_at (edged l) func)
  rules = on (rules_there l low few a anew r entered func)
    where
      on : KeepsFunctionRules (edged l) func (function_at (edged l) func) ⊎ (function_at (edged l) func ≡ no_function)
          → KeepsFunctionRules (edged l) func (function_at (edged l) func)
      on (inl k) = k
      on (inr same) =
          let none : fetch no_function is.block is.at ≡ AtInstr (Instr.Alloca slot.alloca is.ty is.align) =
          ap (λ (h : Function). fetch h is.block is.at) (sym same) ∙ is.stands in
          absurd (cc)

  once : IsMadeOnce (function_at (edged l) func) slot.alloca
  once = made_once (edged l) func g rules slot.alloca is.ty is.align is.block is.at is.stands

  among : has_name (allocas_of (function_at (early l) func)) slot.alloca ≡ true
  among = sym (ap (λ (vs : List ℕ). has_name vs slot.alloca) (same_allocas f))
      ∙ subst (λ (h : Function). has_name (allocas_of h) slot.alloca ≡ true)
      (now l low few a anew r entered func coroutine) (listed g slot.alloca once)

  own : HasAlloca (function_at (early l) func) slot.alloca
  own = alloca_of f slot.alloca (listed_by_name (allocas_of f) slot.alloca among)

  early_now : KeepsFunctionRules (early l) func (function_at (early l) func)
  early_now = early_rules l.text l.source low.source.stands low.source.accepted func f
      (coroutine_there l low r.answers func coroutine)

  module _ (position : ℕ)
      (at : position_of ((asking l low a r).b.framing func).contents.held slot.alloca ≡ Some position)
      (size align : ℕ) (sized : slice_get u slot.block ≡ Some (size, align)) where
    field_there_now : HasOwnField (early l) (function_at (early l) func)
        ((asking l low a r).b.framing func).contents.classes slot.alloca
        (layout_of l.layouts.coroutines func) position
    field_there_now =
        own_field (early l) func f early_now x.contents (contents l low r func coroutine) slot.alloca own.point own.ty
        own.align own.stands (layout_of l.layouts.coroutines func) (good l low r func coroutine)
        (fit_fields l low func f (coroutine_there l low r.answers func coroutine)) position at

    held : IsHeldSlot (early l) (function_at (early l) func) ((asking l low a r).b.framing func).contents.classes
        slot.alloca field_there_now.held
    held = field_there_now.slot

    same : (is.ty ≡ held.ty) × (is.align ≡ held.align)
    same =
        same_alloca g slot.alloca once is.block is.at is.ty is.align is.stands (moved f held.point).block
        (moved f held.point).at held.ty held.align
        (fetch_at g (moved f held.point) (Instr.Alloca slot.alloca held.ty held.align)
        (subst (λ (h : Function). instr_at h (moved f held.point) ≡ Some (Instr.Alloca slot.alloca held.ty held.align))
        (sym (now l low few a anew r entered func coroutine)) (instr_moved f held.point ∙ held.stands)))

    both : (size_of (edged l) is.ty ≡ size) × (is.align ≡ align)
    both = (ap first_in (sym is.sized ∙ sized), ap second_in (sym is.sized ∙ sized))

    small : size_of (edged l) is.ty < 2 ^ 64
    small = ((all_kept l low a anew r entered few).steps func).sizes is.block is.at slot.alloca is.ty is.align is.stands

    size_is : field_there_now.held.size ≡ size
    size_is = held.size ∙ ap (λ (t : Ty). cut (size_of (edged l) t)) (sym same.0)
        ∙ uncut (size_of (edged l) is.ty) small ∙ both.0

    pub slot_field : IsSlotField (layout_of (asking l low a r).b.given.layouts func)
        (offset_at ((asking l low a r).b.framing func).layout position) size align
    slot_field =
        subst (λ (y : Layout). IsSlotField (layout_of l.layouts.coroutines func) (offset_at y position) size align)
        (sym (layout l low r func coroutine))
        (field_there_now.field size align size_is (held.aligned ∙ sym same.1 ∙ both.1))
