-- Frames of accepted sources are small, hold no frames of others, and have their promises at 16.
use Rattle.std.proofs.Common.{◌≡◌, inl, inr, ℕ, zero, suc, ◌+◌, ◌<◌, ◌≤◌, ◌^◌, Bool, true, false, List, [], ◌∷◌, refl, sym, ap, ◌∙◌, subst, arith}
use Rattle.std.specs.Prelude.{None, Option, Some, filter_map, find, option_and_then, option_map, option_to_list, slice_get, slice_index_or, unwrap_or, if◌then◌else◌, ◌==◌}
use Rattle.std.specs.List.{cons_option}
use Rattle.compiler_theorem.specs.compiler.flow_solver.Paths.{IsListed}
use Rattle.compiler_theorem.specs.compiler.frame_contents.Held.{field_of, fields_of, index_field, slot_held}
use Rattle.compiler_theorem.specs.compiler.frame_contents.declared.held.Holding.{Holding}
use Rattle.compiler_theorem.specs.compiler.frame_good.Frames.{AreGood, AreInConflict, Coroutine, IsGoodFor, NoMore, Other}
use Rattle.compiler_theorem.specs.compiler.frame_good.Good.{IsGoodLayout}
use Rattle.compiler_theorem.specs.compiler.frame_layout.Layouts.{placed_or}
use Rattle.compiler_theorem.specs.compiler.frame_layout.declared.layout.Field.{Field}
use Rattle.compiler_theorem.specs.compiler.frame_layout.declared.layout.FieldKind.{FieldKind}
use Rattle.compiler_theorem.specs.compiler.frame_layout.declared.layout.Layout.{Layout}
use Rattle.compiler_theorem.specs.compiler.frame_layout.declared.layout.PlacedField.{PlacedField}
use Rattle.compiler_theorem.specs.compiler.ir_base.declared.name.Name.{Name}
use Rattle.compiler_theorem.specs.compiler.ir_model.Calls.{first_result}
use Rattle.compiler_theorem.specs.compiler.ir_model.Ty.{Ty}
use Rattle.compiler_theorem.specs.compiler.ir_model.declared.instr.Instr.{Instr}
use Rattle.compiler_theorem.specs.compiler.ir_model.declared.operand.Intrinsic.{Intrinsic}
use Rattle.compiler_theorem.specs.compiler.ir_model.declared.module.Function.{Function}
use Rattle.compiler_theorem.specs.compiler.ir_model.declared.module.Module.{Module}
use Rattle.compiler_theorem.specs.compiler.ir_paths.Slots.{has_name, promise_of}
use Rattle.compiler_theorem.specs.compiler.run_framed.Framed.{is_frame_kind, is_promise_kind, layout_of, no_layout, promise_offset}
use Rattle.compiler_theorem.specs.compiler.run_laws.changed.Changed.{Each}
use Rattle.compiler_theorem.specs.compiler.run_source.declared.state.Instance.{Instance}
use Rattle.compiler_theorem.proofs.parts.Found.{promise_at_first}
use Rattle.compiler_theorem.proofs.parts.Held.{held_each}
use Rattle.compiler_theorem.proofs.theorem.Facts.{good_layouts}
use Rattle.compiler_theorem.specs.theorem.Lowered.{IsLowered, Lowered, early}
use Rattle.pass_elide_ready.specs.pass_elide.Elided.{coroutine_frame}
use Rattle.pass_elide_ready.specs.pass_elide.Frames.{callee_field, callee_fields, field_frame, field_named, frame_at, layout_of as callee_layout_of, result_name, site_frame}
use Rattle.pass_elide_ready.specs.pass_elide.declared.fields.CalleeField.{CalleeField}
use Rattle.pass_elide_ready.specs.pass_elide_proof.Elision.{Elision, framed, function_in}
use Rattle.pass_elide_ready.specs.pass_elide_proof.Match.{frame_size}
use Rattle.pass_elide_ready.specs.pass_elide_proof.Sound.{NestsNone}
use Rattle.pass_elide_ready.specs.pass_elide_proof.Waking.{GivesNone}

-- ---- each layout

-- a layout is good for some coroutine
pub record IsGoodOne (l : Layout) : Type 0 where
  pub code : Module
  pub number : ℕ
  pub function : Function
  pub good : IsGoodFor code number function l

each_good : (m : Module) (k : ℕ) (fs : List Function) (ls : List Layout) → AreGood m k fs ls → (l : Layout)
    → IsListed l ls → IsGoodOne l
each_good m _ _ _ (NoMore k) l n = absurd n
each_good m _ _ _ (Other k f fs ls plain rest) l n = each_good m (k + 1) fs ls rest l n
each_good m _ _ _ (Coroutine k f fs x ls marked good rest) l (inl e) =
    record { code = m; number = k; function = f; good = subst (IsGoodFor m k f) (sym e) good }
each_good m _ _ _ (Coroutine k f fs x ls marked good rest) l (inr n) = each_good m (k + 1) fs ls rest l n

found_listed : (test : Layout → Bool) (ls : List Layout) (l : Layout) → find test ls ≡ Some l → IsListed l ls
found_listed test [] l e = absurd (cc)
found_listed test (x ∷ ls) l e = on (test x) e (found_listed test ls l)
  where
    on : (b : Bool) → (if b then Some x else find test ls) ≡ Some l → (find test ls ≡ Some l → IsListed l ls)
        → IsListed l (x ∷ ls)
    on true h rest = let same : x ≡ l = cc in inl (sym same)
    on false h rest = inr (rest h)

-- ---- no field is a frame

slots_no_frames : (m : Module) (f : Function) (r : ℕ) (ty : Ty) (align : ℕ)
    → is_frame_kind (slot_held m (promise_of f) r ty align).kind ≡ false
slots_no_frames m f r ty align = on (has_name (option_to_list (promise_of f)) r)
  where
    on : (b : Bool) → is_frame_kind (if b then FieldKind.Promise else FieldKind.Slot) ≡ false
    on true = refl
    on false = refl

fields_no_frames : (f : Function) (hs : List Holding) → Each (λ (h : Holding). is_frame_kind h.kind ≡ false) hs
    → (k : ℕ) (x : Field) → slice_get (fields_of f hs) k ≡ Some x → is_frame_kind x.kind ≡ false
fields_no_frames f [] h k x e = last k e
  where
    last : (k : ℕ) → slice_get (index_field f ∷ []) k ≡ Some x → is_frame_kind x.kind ≡ false
    last zero d = let same : index_field f ≡ x = cc in sym (ap (λ (y : Field). is_frame_kind y.kind) same)
    last (suc k) d = absurd (cc)
fields_no_frames f (y ∷ hs) h k x e = first k e (λ j d. fields_no_frames f hs h.1 j x d)
  where
    first : (k : ℕ) → slice_get (field_of f y ∷ fields_of f hs) k ≡ Some x
        → ((j : ℕ) → slice_get (fields_of f hs) j ≡ Some x → is_frame_kind x.kind ≡ false)
        → is_frame_kind x.kind ≡ false
    first zero d again =
        let same : field_of f y ≡ x = cc in sym (ap (λ (z : Field). is_frame_kind z.kind) same) ∙ h.0
    first (suc k) d again = again k d

module _ (l : Layout) (x : IsGoodOne l) where
  by : IsGoodLayout x.number (fields_of x.function x.good.contents.held) (AreInConflict x.function x.good.contents) l
  by = x.good.by_contents x.good.contents x.good.contents_are

  held_no_frames : Each (λ (h : Holding). is_frame_kind h.kind ≡ false) x.good.contents.held
  held_no_frames = subst (λ (hs : List Holding). Each (λ (h : Holding). is_frame_kind h.kind ≡ false) hs)
      (sym x.good.contents_are.held_are)
      (held_each x.code x.function _ _ (λ (h : Holding). is_frame_kind h.kind ≡ false) (λ v size e. refl)
      (slots_no_frames x.code x.function))

  pub one_no_frame : (a : ℕ) (y : PlacedField) → slice_get l.fields a ≡ Some y → is_frame_kind y.kind ≡ false
  one_no_frame a y e =
      let z = by.shown.only a y e in
      ap (λ (q : PlacedField). is_frame_kind q.kind) z.2
      ∙ on z.0 (slice_get (fields_of x.function x.good.contents.held) z.0) refl
    where
      on : (i : ℕ) (o : Option Field) → slice_get (fields_of x.function x.good.contents.held) i ≡ o
          → is_frame_kind (placed_or o (slice_index_or l.offsets i 0)).kind ≡ false
      on i None d = refl
      on i (Some v) d = fields_no_frames x.function x.good.contents.held held_no_frames i v d

  pub one_small : l.size < 2 ^ 32
  one_small = let within : l.size ≤ 2 ^ 24 = by.within in omega (arith, within)

  pub one_promise : (y : PlacedField) → find (λ z. is_promise_kind z.kind) l.fields ≡ Some y → y.offset ≡ 16
  one_promise = promise_at_first x.code x.number x.function l x.good

-- ---- the layouts of a source

each_at : {A : Type 0} (P : A → Type 0) (xs : List A) → ((k : ℕ) (x : A) → slice_get xs k ≡ Some x → P x) → Each P xs
each_at P [] h = tt
each_at P (x ∷ xs) h = (h 0 x refl, each_at P xs (λ k y e. h (suc k) y e))

none_of : (y : PlacedField) → is_frame_kind y.kind ≡ false → callee_field y ≡ None
none_of y h = on y.kind h
  where
    on : (k : FieldKind) → is_frame_kind k ≡ false
        → callee_field (record { kind = k; name = y.name; offset = y.offset; size = y.size }) ≡ None
    on FieldKind.Frame h = absurd (cc)
    on FieldKind.Promise h = refl
    on FieldKind.Value h = refl
    on FieldKind.Slot h = refl
    on FieldKind.Index h = refl

module _ (l : Lowered) (low : IsLowered l) (e : Elision) (same : e.layouts ≡ l.layouts) where
  good_one : (x : Layout) → IsListed x e.layouts.coroutines → IsGoodOne x
  good_one x n = each_good (early l) 0 (early l).functions l.layouts.coroutines (good_layouts l low) x
      (subst (λ (y : List Layout). IsListed x y) (ap (λ y. y.coroutines) same) n)

  -- what holds of good layouts and of none holds of each that is found
  of_found : (P : Layout → Type 0) → ((func : ℕ) → P (no_layout func)) → ((x : Layout) → IsGoodOne x → P x)
      → (func : ℕ) → P (layout_of e.layouts.coroutines func)
  of_found P none one func = on (find (λ (x : Layout). x.coroutine == func) e.layouts.coroutines) refl
    where
      on : (o : Option Layout) → find (λ (x : Layout). x.coroutine == func) e.layouts.coroutines ≡ o
          → P (unwrap_or o (no_layout func))
      on None d = none func
      on (Some x) d = one x (good_one x (found_listed (λ (y : Layout). y.coroutine == func) e.layouts.coroutines x d))

  pub frames_small : (func : ℕ) → frame_size e func < 2 ^ 32
  frames_small = of_found (λ (x : Layout). x.size < 2 ^ 32) (λ func. omega arith) one_small

  pub frames_nest_none : NestsNone (framed e)
  frames_nest_none = of_found (λ (x : Layout). Each (λ (y : PlacedField). is_frame_kind y.kind ≡ false) x.fields)
      (λ func. tt)
      (λ x good. each_at (λ (y : PlacedField). is_frame_kind y.kind ≡ false) x.fields (one_no_frame x good))

  pub promises_low : (x : Instance) (distance : ℕ) → promise_offset (framed e) x ≡ Some distance
      → distance < 2 ^ 64
  promises_low x distance = of_found (λ (y : Layout).
      option_map (λ (z : PlacedField). z.offset) (find (λ (z : PlacedField). is_promise_kind z.kind) y.fields)
      ≡ Some distance → distance < 2 ^ 64) (λ func none. absurd (cc)) good x.coroutine
    where
      good : (y : Layout) → IsGoodOne y
          → option_map (λ (z : PlacedField). z.offset) (find (λ (z : PlacedField). is_promise_kind z.kind) y.fields)
          ≡ Some distance → distance < 2 ^ 64
      good y g = on (find (λ (z : PlacedField). is_promise_kind z.kind) y.fields) refl
        where
          on : (o : Option PlacedField) → find (λ (z : PlacedField). is_promise_kind z.kind) y.fields ≡ o
              → option_map (λ (z : PlacedField). z.offset) o ≡ Some distance → distance < 2 ^ 64
          on None d h = absurd (cc)
          on (Some z) d h =
              let at : z.offset ≡ 16 = one_promise y g z d in
              let is : z.offset ≡ distance = cc in
              omega (arith, at, is)

  -- ---- calls in coroutines give no frames

  no_callee : (ys : List PlacedField) → Each (λ (y : PlacedField). is_frame_kind y.kind ≡ false) ys
      → filter_map callee_field ys ≡ []
  no_callee [] h = refl
  no_callee (y ∷ ys) h = ap (λ (o : Option CalleeField). cons_option o (filter_map callee_field ys)) (none_of y h.0)
      ∙ no_callee ys h.1

  none_named : (begin : ℕ) (names : List Name) (i : Instr) → field_frame begin [] names i ≡ None
  none_named begin names i = on (result_name names i)
    where
      on : (o : Option Name) → option_map (frame_at begin) (option_and_then (field_named []) o) ≡ None
      on None = refl
      on (Some n) = refl

  no_fields : (func : ℕ) → callee_fields (find (λ (x : Layout). x.coroutine == func) e.layouts.coroutines) ≡ []
  no_fields func = on (find (λ (x : Layout). x.coroutine == func) e.layouts.coroutines) refl
    where
      on : (o : Option Layout) → find (λ (x : Layout). x.coroutine == func) e.layouts.coroutines ≡ o
          → callee_fields o ≡ []
      on None d = refl
      on (Some x) d =
          let good = good_one x (found_listed (λ (y : Layout). y.coroutine == func) e.layouts.coroutines x d) in
          no_callee x.fields (each_at (λ (y : PlacedField). is_frame_kind y.kind ≡ false) x.fields
          (one_no_frame x good))

  pub coroutines_give_none : (func : ℕ) → (function_in e func).coroutine ≡ true → GivesNone e func
  coroutines_give_none func c block at i =
      ap (λ (t : Bool). (if t then coroutine_frame (callee_layout_of e.layouts.coroutines func) (function_in e func)
      else site_frame e.code e.layouts.coroutines e.sites func) block at i) c
      ∙ ap (λ (fields : List CalleeField). field_frame
      (unwrap_or (first_result Intrinsic.CoroBegin (function_in e func)) 0) fields (function_in e func).names i)
      (no_fields func)
      ∙ none_named (unwrap_or (first_result Intrinsic.CoroBegin (function_in e func)) 0) (function_in e func).names i
