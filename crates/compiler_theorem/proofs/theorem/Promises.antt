-- Layouts of accepted sources have the promise where it lies among what is held.
use Rattle.std.proofs.Common.{◌≡◌, ℕ, zero, suc, ◌+◌, Bool, true, false, List, [], ◌∷◌, ◌++◌, map, refl, sym, ap, ◌∙◌, subst, arith}
use Rattle.std.proofs.lemmas.Option.{slice_get_within}
use Rattle.std.specs.Prelude.{Option, Some, find, option_map, slice_get, slice_index_or, unwrap_or, if◌then◌else◌, ◌||◌, ◌==◌}
use Rattle.compiler.proofs.whole.lowered_sources.Sources.{early_others, early_rules}
use Rattle.compiler_theorem.proofs.parts.FirstCalls.{promise_listed}
use Rattle.compiler_theorem.proofs.parts.Found.{promise_found}
use Rattle.compiler_theorem.proofs.parts.Held.{held_each}
use Rattle.compiler_theorem.proofs.theorem.Built.{coroutine_there, framings, sources_built}
use Rattle.compiler_theorem.proofs.theorem.Facts.{good_layouts}
use Rattle.compiler_theorem.specs.theorem.Asked.{ArePromisesLaid}
use Rattle.compiler_theorem.specs.theorem.Built.{building}
use Rattle.compiler_theorem.specs.theorem.Entries.{Run}
use Rattle.compiler_theorem.specs.theorem.Lowered.{IsLowered, Lowered, early}
use Rattle.compiler.specs.flow_solver.Paths.{IsListed}
use Rattle.compiler.specs.frame_crossing.Values.{values_of}
use Rattle.compiler.specs.frame_contents.Frames.{AreContents}
use Rattle.compiler.specs.frame_contents.Held.{crossing_values, field_of, fields_of, frame_slots, index_field, position_from, position_of, slot_held, slot_kind, value_held}
use Rattle.compiler.specs.frame_contents.declared.contents.Contents.{Contents}
use Rattle.compiler.specs.frame_contents.declared.held.Holding.{Holding}
use Rattle.compiler.proofs.frame_good.Frames.{layouts_found}
use Rattle.compiler.specs.frame_good.Frames.{AreInConflict}
use Rattle.compiler.specs.frame_good.Good.{IsGoodLayout}
use Rattle.compiler.specs.frame_layout.Layouts.{is_promise, placed, placed_or}
use Rattle.compiler.specs.frame_layout.declared.layout.Field.{Field}
use Rattle.compiler.specs.frame_layout.declared.layout.FieldKind.{FieldKind}
use Rattle.compiler.specs.frame_layout.declared.layout.Layout.{Layout}
use Rattle.compiler.specs.frame_layout.declared.layout.PlacedField.{PlacedField}
use Rattle.compiler.proofs.ir_laws.facts.Truth.{equal_numbers, itself}
use Rattle.compiler.specs.ir_model.Names.{function_at}
use Rattle.compiler.specs.ir_model.Ty.{Ty}
use Rattle.compiler.specs.ir_model.declared.instr.Instr.{Instr}
use Rattle.compiler.specs.ir_model.declared.module.Function.{Function}
use Rattle.compiler.specs.ir_model.declared.module.Module.{Module}
use Rattle.compiler.specs.ir_paths.Slots.{allocas_of, has_name, promise_of}
use Rattle.compiler.specs.pass_edges.EdgeBlocks.{with_edge_blocks}
use Rattle.compiler.specs.pass_frames.Tables.{offset_at}
use Rattle.pass_frames_meaning.specs.pass_frames_proof.Asking.{IsPromiseLaid, promise_field}
use Rattle.pass_frames_meaning.specs.pass_frames_proof.Places.{Framing, edged}
use Rattle.compiler.proofs.pass_proofs.edges.paths.Slots.{same_promise}
use Rattle.compiler.proofs.rule_laws.frames.alike_frames.Held.{crossing_holds}
use Rattle.compiler.proofs.rule_laws.frames.needed.Apart.{apart_no_value}
use Rattle.compiler.proofs.rule_laws.rules.source_rules.Slots.{alloca_of}
use Rattle.compiler.specs.rule_laws.rules.function_rules.Kept.{KeepsFunctionRules}
use Rattle.compiler.specs.run_framed.Framed.{is_promise_kind, layout_of, no_layout}
use Rattle.compiler.specs.run_laws.changed.Changed.{Each}

-- ---- what is held at a position

pub held_at : (k : ℕ) (hs : List Holding) (a position : ℕ) → position_from k hs a ≡ Some position
    → (n : ℕ) × (position ≡ k + n) × (h : Holding) × (slice_get hs n ≡ Some h) × (h.value ≡ a)
held_at k [] a position e = absurd (cc)
held_at k (h ∷ hs) a position e = on (h.value == a) refl (held_at (k + 1) hs a position) e
  where
    on : (b : Bool) → (h.value == a) ≡ b → (position_from (k + 1) hs a ≡ Some position
        → (n : ℕ) × (position ≡ k + 1 + n) × (x : Holding) × (slice_get hs n ≡ Some x) × (x.value ≡ a))
        → (if b then Some k else position_from (k + 1) hs a) ≡ Some position
        → (n : ℕ) × (position ≡ k + n) × (x : Holding) × (slice_get (h ∷ hs) n ≡ Some x) × (x.value ≡ a)
    on true d again e =
        let same : k ≡ position = cc in
        (0, omega (arith, same), h, refl, equal_numbers h.value a d)
    on false d again e =
        let x = again e in
        let is : position ≡ k + 1 + x.0 = x.1 in
        (suc x.0, omega (arith, is), x.2, x.3, x.4)

pub each_there : (P : Holding → Type 0) (hs : List Holding) (n : ℕ) (h : Holding) → Each P hs → slice_get hs n ≡ Some h
    → P h
each_there P [] n h all e = absurd (cc)
each_there P (x ∷ hs) zero h all e = let same : x ≡ h = cc in subst P same all.0
each_there P (x ∷ hs) (suc n) h all e = each_there P hs n h all.1 e

pub field_there : (f : Function) (hs : List Holding) (n : ℕ) (h : Holding) → slice_get hs n ≡ Some h
    → slice_get (map (field_of f) hs ++ index_field f ∷ []) n ≡ Some (field_of f h)
field_there f [] n h e = absurd (cc)
field_there f (x ∷ hs) zero h e = let same : x ≡ h = cc in ap (λ (y : Holding). Some (field_of f y)) same
field_there f (x ∷ hs) (suc n) h e = field_there f hs n h e

found_some : (test : PlacedField → Bool) (xs : List PlacedField) (n : ℕ) (x : PlacedField) → slice_get xs n ≡ Some x
    → test x ≡ true → (y : PlacedField) × (find test xs ≡ Some y)
found_some test [] n x e t = absurd (cc)
found_some test (y ∷ xs) zero x e t =
    let same : y ≡ x = cc in
    (y, ap (λ (b : Bool). if b then Some y else find test xs) (ap test same ∙ t))
found_some test (y ∷ xs) (suc n) x e t = on (test y) (found_some test xs n x e t)
  where
    on : (b : Bool) → (z : PlacedField) × (find test xs ≡ Some z)
        → (z : PlacedField) × ((if b then Some y else find test xs) ≡ Some z)
    on true again = (y, refl)
    on false again = again

-- ---- the promise is held as one

module _ (m : Module) (k : ℕ) (f : Function) (rules : KeepsFunctionRules m k f) (c : Contents)
    (contents : AreContents m f c) (a : ℕ) (is : promise_of f ≡ Some a) (listed : IsListed a (allocas_of f)) where
  abbrev IsPromise : Holding → Type 0
  IsPromise h = h.value ≡ a → h.kind ≡ FieldKind.Promise

  no_value : (v size : ℕ) → has_name (crossing_values c.crossing) v ≡ true → IsPromise (value_held v size)
  no_value v size e same =
      let x = alloca_of f a listed in
      absurd (crossing_holds (λ (u : ℕ). u ≡ a → ⊥) f c.crossing contents.crossing_are
      (λ u l s. apart_no_value m k f rules a x.point (Instr.Alloca a x.ty x.align) x.stands refl refl
      (subst (λ (z : ℕ). IsListed z (values_of f)) s l)) v e same)

  own_slot : (r : ℕ) (ty : Ty) (align : ℕ) → IsPromise (slot_held m (promise_of f) r ty align)
  own_slot r ty align same =
      ap (λ (o : Option ℕ). slot_kind o r) is ∙ ap (slot_kind (Some a)) same
      ∙ ap (λ (b : Bool). if b || false then FieldKind.Promise else FieldKind.Slot) (itself a)

  promises : Each IsPromise c.held
  promises =
      subst (Each IsPromise) (sym contents.held_are)
      (held_each m f (has_name (crossing_values c.crossing)) (has_name (frame_slots f c.classes)) IsPromise no_value
      own_slot)

  -- ---- a good layout has it at 16

  module _ (l : Layout) (good : IsGoodLayout k (fields_of f c.held) (AreInConflict f c) l) (position : ℕ)
      (at : position_of c.held a ≡ Some position) where
    abbrev There : Type 0
    There = (n : ℕ) × (position ≡ 0 + n) × (h : Holding) × (slice_get c.held n ≡ Some h) × (h.value ≡ a)

    there : There
    there = held_at 0 c.held a position at

    abbrev h : Holding
    h = there.2

    got : slice_get c.held position ≡ Some h
    got = let same : position ≡ there.0 = omega (arith, there.1) in ap (slice_get c.held) same ∙ there.3

    kind : h.kind ≡ FieldKind.Promise
    kind = each_there IsPromise c.held position h promises got there.4

    field : slice_get (fields_of f c.held) position ≡ Some (field_of f h)
    field = field_there f c.held position h got

    pub at_first : offset_at l position ≡ 16
    at_first = (good.each position (field_of f h) field).promise_at (ap is_promise kind)

    pub promise_shown : (y : PlacedField) × (find (λ (z : PlacedField). is_promise_kind z.kind) l.fields ≡ Some y)
    promise_shown =
        let x = good.shown.each position (slice_get_within (fields_of f c.held) position (field_of f h) field) in
        found_some (λ (z : PlacedField). is_promise_kind z.kind) l.fields x.0
        (placed (fields_of f c.held) l.offsets position) x.1
        (ap (λ (o : Option Field). is_promise_kind (placed_or o (slice_index_or l.offsets position 0)).kind) field
        ∙ ap is_promise_kind kind)

-- ---- of accepted sources

module _ (l : Lowered) (low : IsLowered l) (r : Run) where
  abbrev e : Module
  e = early l

  abbrev ls : List Layout
  ls = l.layouts.coroutines

  module _ (func : ℕ) (coroutine : (function_at e func).coroutine ≡ true) where
    abbrev f : Function
    f = function_at e func

    abbrev x : Framing
    x = (building l low.is_framed r.answers).framing func

    there_now : slice_get e.functions func ≡ Some f
    there_now = coroutine_there l low r.answers func coroutine

    code : x.code ≡ e
    code = ((sources_built l low r.answers).coroutines func coroutine).code

    function : x.function ≡ f
    function = ((sources_built l low r.answers).coroutines func coroutine).function

    pub layout : x.layout ≡ layout_of ls func
    layout = ((sources_built l low r.answers).coroutines func coroutine).layout

    pub contents : AreContents e f x.contents
    contents =
        subst (λ (m : Module). AreContents m f x.contents) code
        (subst (λ (g : Function). AreContents x.code g x.contents) function
        (framings l low r.answers func coroutine).frameable.contents)

    pub good : IsGoodLayout func (fields_of f x.contents.held) (AreInConflict f x.contents) (layout_of ls func)
    good =
        let y = layouts_found e ls func f (good_layouts l low) there_now coroutine in
        subst (IsGoodLayout func (fields_of f x.contents.held) (AreInConflict f x.contents))
        (sym (ap (λ (o : Option Layout). unwrap_or o (no_layout func)) y.is_there))
        (y.is_good.by_contents x.contents contents)

    promise_is : (a : ℕ) → promise_of (edged x) ≡ Some a → promise_of f ≡ Some a
    promise_is a is =
        sym (same_promise f) ∙ sym (ap (λ (g : Function). promise_of (with_edge_blocks g)) function) ∙ is

    laid : (a position : ℕ) → promise_of (edged x) ≡ Some a → position_of x.contents.held a ≡ Some position
        → promise_field x ≡ Some (offset_at x.layout position)
    laid a position is at =
        let own : promise_of f ≡ Some a = promise_is a is in
        let rules = early_rules l.text l.source low.source.stands low.source.accepted func f there_now in
        let kept = ((early_others l.text l.source low.source.stands low.source.accepted).shape func f there_now).promise in
        let listed = promise_listed func f coroutine kept a own in
        let first = at_first e func f rules x.contents contents a own listed (layout_of ls func) good position at in
        let shown = promise_shown e func f rules x.contents contents a own listed (layout_of ls func) good position at in
        let sixteen : shown.0.offset ≡ 16
        = promise_found e ls (good_layouts l low) func f there_now coroutine shown.0 shown.1 in
        ap (λ (y : Layout). option_map (λ (z : PlacedField). z.offset)
        (find (λ (z : PlacedField). is_promise_kind z.kind) y.fields)) layout
        ∙ ap (option_map (λ (z : PlacedField). z.offset)) shown.1
        ∙ ap Some (sixteen ∙ sym first)
        ∙ ap (λ (y : Layout). Some (offset_at y position)) (sym layout)

    pub one_laid : IsPromiseLaid ((building l low.is_framed r.answers).framing func)
    one_laid = record { laid = laid }

  pub promises_laid : ArePromisesLaid l low r
  promises_laid func coroutine = one_laid func coroutine
