-- Layouts that are good by their fields' bytes keep places too, where what may be touched has a byte.
use Rattle.std.proofs.Common.{◌≡◌, ◌⊎◌, ◌≢◌, inl, inr, ⊎_elim, ℕ, suc, ◌+◌, ◌<◌, ◌≤◌, ◌%◌, ◌^◌, length, Bool, true, false, List, [], ◌∷◌, refl, sym, ap, ◌∙◌, subst, arith}
use Rattle.std.proofs.lemmas.Bool.{cases_lt, false≢true, lt-ltb}
use Rattle.std.specs.Prelude.{None, Option, Some, find, max, nat_le, slice_get, slice_index_or, unwrap_or, if◌then◌else◌}
use Rattle.compiler_theorem.proofs.parts.Index.{conflicts_there, fields_length, held_kinds, index_there, stands_before}
use Rattle.compiler.specs.frame_contents.Frames.{AreContents}
use Rattle.compiler.specs.frame_contents.Held.{at_fields, both_at_fields, fields_of, index_field, position_of, slot_position, suspend_count}
use Rattle.compiler.specs.frame_contents.declared.contents.Contents.{Contents}
use Rattle.compiler.specs.frame_contents.declared.held.Holding.{Holding}
use Rattle.compiler.proofs.frame_good.Frames.{layouts_found}
use Rattle.compiler.specs.frame_good.Frames.{AreGood, AreInConflict, Coroutine, IsGoodFor, NoMore, Other}
use Rattle.compiler.specs.frame_good.Good.{AreApart, IsGoodField, IsGoodLayout, offset_of}
use Rattle.compiler.specs.frame_layout.Frames.{index_size}
use Rattle.compiler.specs.frame_layout.Layouts.{is_index, is_promise, placed, placed_or}
use Rattle.compiler.specs.frame_layout.declared.layout.Field.{Field}
use Rattle.compiler.specs.frame_layout.declared.layout.FieldKind.{FieldKind}
use Rattle.compiler.specs.frame_layout.declared.layout.Layout.{Layout}
use Rattle.compiler.specs.frame_layout.declared.layout.PlacedField.{PlacedField}
use Rattle.compiler.specs.ir_model.declared.module.Function.{Function}
use Rattle.compiler.specs.ir_model.declared.module.Module.{Module}
use Rattle.pass_split_proof.specs.ready.Layouts.{AreLayoutsOf}
use Rattle.pass_split_proof.specs.states.Instances.{IsLaidOut, index_length}
use Rattle.compiler.specs.run_framed.Framed.{framed_given, is_open_kind, is_promise_kind, layout_of, no_layout}
use Rattle.compiler.specs.run_laws.changed.Changed.{Each}

-- ---- layouts in order

plain_more : (k : ℕ) (f : Function) (fs : List Function) (ls : List Layout) → f.coroutine ≡ false
    → AreLayoutsOf (k + 1) fs ls → AreLayoutsOf k (f ∷ fs) ls
plain_more k f fs [] plain rest = (plain, rest)
plain_more k f fs (l ∷ ls) plain rest = inl (plain, rest)

pub found_in_order : (m : Module) (k : ℕ) (fs : List Function) (ls : List Layout) → AreGood m k fs ls
    → AreLayoutsOf k fs ls
found_in_order m _ _ _ (NoMore k) = tt
found_in_order m _ _ _ (Other k f fs ls plain rest) = plain_more k f fs ls plain (found_in_order m (k + 1) fs ls rest)
found_in_order m _ _ _ (Coroutine k f fs l ls marked good rest) =
    inr (marked, (good.by_contents good.contents good.contents_are).is_of, found_in_order m (k + 1) fs ls rest)

-- ---- the promise

record IsFoundAt (test : PlacedField → Bool) (xs : List PlacedField) (y : PlacedField) : Type 0 where
  index : ℕ
  there : slice_get xs index ≡ Some y
  passes : test y ≡ true

found_at : (test : PlacedField → Bool) (xs : List PlacedField) (y : PlacedField) → find test xs ≡ Some y
    → IsFoundAt test xs y
found_at test [] y e = absurd (cc)
found_at test (x ∷ xs) y e = on (test x) refl e (found_at test xs y)
  where
    on : (b : Bool) → test x ≡ b → (if b then Some x else find test xs) ≡ Some y
        → (find test xs ≡ Some y → IsFoundAt test xs y) → IsFoundAt test (x ∷ xs) y
    on true d e rest =
        let same : x ≡ y = cc in
        record { index = 0; there = ap (λ (z : PlacedField). Some z) same; passes = sym (ap test same) ∙ d }
    on false d e rest = let r = rest e in record { index = suc r.index; there = r.there; passes = r.passes }

kinds_same : (x : FieldKind) → is_promise x ≡ is_promise_kind x
kinds_same FieldKind.Promise = refl
kinds_same FieldKind.Value = refl
kinds_same FieldKind.Slot = refl
kinds_same FieldKind.Index = refl
kinds_same FieldKind.Frame = refl

open_is_other : (x : FieldKind) → is_open_kind x ≡ true → is_index x ≡ false
open_is_other FieldKind.Promise e = refl
open_is_other FieldKind.Value e = refl
open_is_other FieldKind.Slot e = refl
open_is_other FieldKind.Index e = absurd (false≢true e)
open_is_other FieldKind.Frame e = absurd (false≢true e)

-- ---- numbers

size_low : (n : ℕ) → n ≤ 2 ^ 24 → n < 2 ^ 64
size_low n le = omega (arith, le)

unlike : (i n : ℕ) → i < n → i ≢ n
unlike i n lt e = omega (arith, lt, e)

next_low : (i n k : ℕ) → i < n → k ≡ suc n → i < k
next_low i n k lt e = omega (arith, lt, e)

last_low : (n k : ℕ) → k ≡ suc n → n < k
last_low n k e = omega (arith, e)

divides : (offset count : ℕ) → offset % max (index_size count) 1 ≡ 0 → offset % index_size count ≡ 0
divides offset count = on (nat_le count 256)
  where
    on : (b : Bool) → offset % max (if b then 1 else 2) 1 ≡ 0 → offset % (if b then 1 else 2) ≡ 0
    on true e = e
    on false e = e

takes : (count : ℕ) → 0 < index_size count
takes count = on (nat_le count 256)
  where
    on : (b : Bool) → 0 < (if b then 1 else 2)
    on true = omega arith
    on false = omega arith

-- fields that share no byte lie beside each other
beside : (x s y w : ℕ) → 0 < s → 0 < w → AreApart x s y w → (x + s ≤ y) ⊎ (y + w ≤ x)
beside x s y w some more apart = ⊎_elim first (λ le. inl le) (cases_lt y (x + s))
  where
    second : y < x + s → x < y + w → (x + s ≤ y) ⊎ (y + w ≤ x)
    second lt low = ⊎_elim
        (λ early. absurd (apart y (omega (arith, early), lt) (omega arith, omega (arith, more))))
        (λ late. absurd (apart x (omega arith, omega (arith, some)) (late, low)))
        (cases_lt x y)

    first : y < x + s → (x + s ≤ y) ⊎ (y + w ≤ x)
    first lt = ⊎_elim (λ low. second lt low) (λ le. inr le) (cases_lt x (y + w))

-- ---- one layout

module _ (m : Module) (k : ℕ) (f : Function) (l : Layout) (good : IsGoodFor m k f l) where
  abbrev c : Contents
  c = good.contents

  abbrev F : List Field
  F = fields_of f good.contents.held

  abbrev n : ℕ
  n = length good.contents.held

  abbrev w : ℕ
  w = index_size (suspend_count f)

  by : IsGoodLayout k (fields_of f good.contents.held) (AreInConflict f good.contents) l
  by = good.by_contents good.contents good.contents_are

  pub promise_at_first : (x : PlacedField) → find (λ y. is_promise_kind y.kind) l.fields ≡ Some x → x.offset ≡ 16
  promise_at_first x e =
      let y = found_at (λ (z : PlacedField). is_promise_kind z.kind) l.fields x e in
      let z = by.shown.only y.index x y.there in
      on z.0 (slice_get F z.0) refl z.2 y.passes
    where
      on : (i : ℕ) (o : Option Field) → slice_get F i ≡ o → x ≡ placed F l.offsets i → is_promise_kind x.kind ≡ true
          → x.offset ≡ 16
      on i None d is p = absurd (false≢true (sym (ap (λ (q : PlacedField). is_promise_kind q.kind) is
          ∙ ap (λ (q : Option Field). is_promise_kind (placed_or q (slice_index_or l.offsets i 0)).kind) d) ∙ p))
      on i (Some v) d is p =
          let same : x ≡ placed_or (Some v) (slice_index_or l.offsets i 0) =
          is ∙ ap (λ (q : Option Field). placed_or q (slice_index_or l.offsets i 0)) d in
          ap (λ (q : PlacedField). q.offset) same
          ∙ (by.each i v d).promise_at (kinds_same v.kind
          ∙ sym (ap (λ (q : PlacedField). is_promise_kind q.kind) same) ∙ p)

  kinds : Each (λ (h : Holding). is_index h.kind ≡ false) good.contents.held
  kinds = subst (λ (hs : List Holding). Each (λ (h : Holding). is_index h.kind ≡ false) hs)
      (sym good.contents_are.held_are) (held_kinds m f _ _)

  own : IsGoodField l (index_field f) (offset_of l n)
  own = by.each n (index_field f) (index_there f good.contents.held)

  index_is : offset_of l n ≡ l.index
  index_is = own.index_at refl

  long : length F ≡ suc n
  long = fields_length f good.contents.held

  -- a field that may be touched
  record IsApartField (x : PlacedField) : Type 0 where
    behind : 16 ≤ x.offset
    apart : (x.offset + x.size ≤ l.index) ⊎ (l.index + w ≤ x.offset)

  module _ (bytes : (i : ℕ) (x : Field) → slice_get F i ≡ Some x → is_open_kind x.kind ≡ true → 0 < x.size) where
    placed_apart : (i : ℕ) (o : Option Field) → slice_get F i ≡ o
        → is_open_kind (placed_or o (slice_index_or l.offsets i 0)).kind ≡ true
        → IsApartField (placed_or o (slice_index_or l.offsets i 0))
    placed_apart i None e opens = absurd (false≢true opens)
    placed_apart i (Some z) e opens =
        let lt : i < n = stands_before f good.contents.held i z e (open_is_other z.kind opens) in
        let conflicts : AreInConflict f good.contents i n = λ alive slots a s. inl (conflicts_there F
        (at_fields (position_of good.contents.held) good.contents.crossing)
        (at_fields (slot_position f good.contents.held) alive)
        (both_at_fields (slot_position f good.contents.held) slots) i n (index_field f)
        (index_there f good.contents.held) refl (lt-ltb i n lt) (next_low i n (length F) lt long)
        (last_low n (length F) long)) in
        record {
          behind = (by.each i z e).behind_header;
          apart = subst (λ (y : ℕ). (offset_of l i + z.size ≤ y) ⊎ (y + w ≤ offset_of l i)) index_is
              (beside (offset_of l i) z.size (offset_of l n) w (bytes i z e opens) (takes (suspend_count f))
              (by.apart i n z (index_field f) e (index_there f good.contents.held) (unlike i n lt) conflicts));
        }

    each_apart : (a : ℕ) (x : PlacedField) → slice_get l.fields a ≡ Some x → is_open_kind x.kind ≡ true
        → IsApartField x
    each_apart a x e opens =
        let z = by.shown.only a x e in
        subst IsApartField (sym z.2) (placed_apart z.0 (slice_get F z.0) refl
        (subst (λ (y : PlacedField). is_open_kind y.kind ≡ true) z.2 opens))

    pub laid_where : (x : Module) (ls : List Layout) → layout_of ls k ≡ l
        → index_length (framed_given x ls []) k ≡ index_size (suspend_count f) → IsLaidOut (framed_given x ls []) k
    laid_where x ls same count = record {
      alignment = subst (λ (y : Layout). (y.align ≡ 8) ⊎ (y.align ≡ 16)) (sym same) by.alignment;
      within = subst (λ (y : Layout). y.size < 2 ^ 64) (sym same) (size_low l.size by.within);
      behind = subst (λ (y : Layout). 16 ≤ y.index) (sym same) (subst (λ (z : ℕ). 16 ≤ z) index_is own.behind_header);
      index = subst (λ (y : Layout). y.index + index_length (framed_given x ls []) k ≤ y.size) (sym same)
          (subst (λ (z : ℕ). l.index + z ≤ l.size) (sym count)
          (subst (λ (z : ℕ). z + w ≤ l.size) index_is own.inside));
      index_aligned = subst (λ (y : Layout). y.index % index_length (framed_given x ls []) k ≡ 0) (sym same)
          (subst (λ (z : ℕ). l.index % z ≡ 0) (sym count)
          (subst (λ (z : ℕ). z % w ≡ 0) index_is (divides (offset_of l n) (suspend_count f) own.aligned)));
      fields = λ a y e opens.
          let z = each_apart a y (sym (ap (λ (q : Layout). slice_get q.fields a) same) ∙ e) opens in (
            z.behind,
            subst (λ (q : Layout). (y.offset + y.size ≤ q.index)
                ⊎ (q.index + index_length (framed_given x ls []) k ≤ y.offset)) (sym same)
                (subst (λ (v : ℕ). (y.offset + y.size ≤ l.index) ⊎ (l.index + v ≤ y.offset)) (sym count) z.apart),
          );
    }

-- ---- the layouts of a module

pub promise_found : (m : Module) (ls : List Layout) → AreGood m 0 m.functions ls → (k : ℕ) (f : Function)
    → slice_get m.functions k ≡ Some f → f.coroutine ≡ true → (x : PlacedField)
    → find (λ y. is_promise_kind y.kind) (layout_of ls k).fields ≡ Some x → x.offset ≡ 16
promise_found m ls good k f there marked x e =
    let y = layouts_found m ls k f good there marked in
    let same : layout_of ls k ≡ y.layout = ap (λ (o : Option Layout). unwrap_or o (no_layout k)) y.is_there in
    promise_at_first m k f y.layout y.is_good x
    (sym (ap (λ (q : Layout). find (λ (z : PlacedField). is_promise_kind z.kind) q.fields) same) ∙ e)

pub laid_found : (m : Module) (ls : List Layout) → AreGood m 0 m.functions ls → (k : ℕ) (f : Function)
    → slice_get m.functions k ≡ Some f → f.coroutine ≡ true
    → ((c : Contents) → AreContents m f c → (i : ℕ) (x : Field) → slice_get (fields_of f c.held) i ≡ Some x
    → is_open_kind x.kind ≡ true → 0 < x.size)
    → (n : Module) → index_length (framed_given n ls []) k ≡ index_size (suspend_count f)
    → IsLaidOut (framed_given n ls []) k
laid_found m ls good k f there marked bytes n count =
    let y = layouts_found m ls k f good there marked in
    laid_where m k f y.layout y.is_good (bytes y.is_good.contents y.is_good.contents_are) n ls
    (ap (λ (o : Option Layout). unwrap_or o (no_layout k)) y.is_there) count
