-- What the rows and words of a chunk tell of its slots.
use Rattle.std.proofs.Common.{◌≡◌, ℕ, ◌<◌, Bool, true, false, List, [], ◌∷◌, Option, Some, refl, sym, ◌∙◌, subst, ⊎_elim}
use Rattle.std.specs.Prelude.{◌↔◌, ◌&&◌, ◌==◌, IsTrue, not, slice_get, if◌then◌else◌}
use Rattle.std.specs.List.{list_any}
use Rattle.std.proofs.lemmas.Bool.{false≢true}
use Rattle.flow_bits.specs.Bits.{HasBit}
use Rattle.ir_model.specs.Names.{is_local}
use Rattle.ir_model.specs.declared.instr.Instr.{Instr}
use Rattle.ir_model.specs.declared.module.Function.{Function}
use Rattle.ir_model.specs.declared.operand.Intrinsic.{Intrinsic}
use Rattle.ir_paths.proofs.Search.{both, either, eq_from, eq_itself, or_left, or_right}
use Rattle.ir_paths.specs.Paths.{has_point}
use Rattle.ir_paths.specs.Slots.{addresses_of, exposed_in_block, has_name, is_escaped, occurs}
use Rattle.ir_paths.specs.Windows.{call_operand, is_call_of, points_where}
use Rattle.ir_paths.specs.declared.point.Point.{Point}
use Rattle.frame_slots.proofs.Bits.{no_bit}
use Rattle.frame_slots.proofs.Exposing.{marks_blocks}
use Rattle.frame_slots.proofs.Marks.{marks_none, marks_operand}
use Rattle.frame_slots.proofs.Occurring.{marks_term, marks_used}
use Rattle.frame_slots.proofs.Points.{where_complete, where_sound}
use Rattle.frame_slots.proofs.RowWords.{at_instr, at_term, point_cases}
use Rattle.frame_slots.specs.Told.{AreAddressWords, AreSlotWords}
use Rattle.frame_slots.specs.Uses.{UsesAt, is_marker_of, is_no_use_in}
use Rattle.frame_slots.specs.Words.{blocks_word, marked, marker_rows, name_word, use_rows, used, with_operand, with_term, word_at_point}

not_true : (b : Bool) → not b ≡ true → b ≡ false
not_true true e = absurd (false≢true e)
not_true false e = refl

not_false : (b : Bool) → b ≡ false → not b ≡ true
not_false true e = absurd (false≢true (sym e))
not_false false e = refl

two_true : (a b : Bool) → a ≡ true → b ≡ true → (a && b) ≡ true
two_true true b e k = k
two_true false b e k = absurd (false≢true e)

-- ---- uses

-- an address with the question is used at the point
pub record UsesOne (words : List ℕ) (f : Function) (p : Point) (c : ℕ) : Type 0 where
  pub name : ℕ
  pub has : HasBit (name_word words name) c
  pub uses : UsesAt f name p

pub use_sound : (words : List ℕ) (f : Function) (p : Point) (c : ℕ) → HasBit (word_at_point (use_rows words f) p) c → UsesOne words f p c
use_sound words f p c h = ⊎_elim
    (λ here.
    let one = (marks_used words here.instr).sound c here.has in
    let two = both (not (is_no_use_in here.instr)) (occurs one.name here.instr) one.passes in
    record { name = one.name; has = one.has; uses = UsesAt.ByInstr here.instr here.stands (not_true (is_no_use_in here.instr) two.0) two.1 })
    (λ last.
    let one = (marks_term words (λ v. false) 0 (marks_none words) last.block.term).sound c last.has in
    record { name = one.name; has = one.has; uses = UsesAt.ByTerm last.block last.is_block last.is_last one.passes })
    (point_cases (used words) (with_term words 0) f p c h)

pub use_complete : (words : List ℕ) (f : Function) (p : Point) (c v : ℕ) → HasBit (name_word words v) c → UsesAt f v p → HasBit (word_at_point (use_rows words f) p) c
use_complete words f p c v h (UsesAt.ByInstr i stands other takes) =
    subst (λ (w : ℕ). HasBit w c) (sym (at_instr (used words) (with_term words 0) f p i stands))
    ((marks_used words i).complete c v h (two_true (not (is_no_use_in i)) (occurs v i) (not_false (is_no_use_in i) other) takes))
use_complete words f p c v h (UsesAt.ByTerm b is_block is_last takes) =
    subst (λ (w : ℕ). HasBit w c) (sym (at_term (used words) (with_term words 0) f p b is_block is_last))
    ((marks_term words (λ v. false) 0 (marks_none words) b.term).complete c v h takes)

-- ---- a chunk's slots

some_same : (o : Option ℕ) (a b : ℕ) → o ≡ Some a → o ≡ Some b → a ≡ b
some_same o a b e k = let same : Some a ≡ Some b = sym e ∙ k in cc

-- the names with the question are the addresses of its slot
pub address_of : (f : Function) (slots words : List ℕ) → AreAddressWords f slots words → (c slot v : ℕ) → c < 64 → slice_get slots c ≡ Some slot → HasBit (name_word words v) c → has_name (addresses_of f slot) v ≡ true
address_of f slots words are c slot v lt is h =
    let a = (are.each v c lt).0 h in
    subst (λ (s : ℕ). has_name (addresses_of f s) v ≡ true) (some_same (slice_get slots c) a.slot slot a.is_slot is) a.is_address

pub has_address : (f : Function) (slots words : List ℕ) → AreAddressWords f slots words → (c slot v : ℕ) → c < 64 → slice_get slots c ≡ Some slot → has_name (addresses_of f slot) v ≡ true → HasBit (name_word words v) c
has_address f slots words are c slot v lt is h = (are.each v c lt).1 (record { slot = slot; is_slot = is; is_address = h })

-- ---- markers

marker_word : (marker : Intrinsic) (words : List ℕ) (i : Instr) (c : ℕ) → HasBit (marked marker words i) c → (v : ℕ) × (HasBit (name_word words v) c × ((is_call_of marker i ≡ true) × (is_local v (call_operand i 1) ≡ true)))
marker_word marker words i c h = by (is_call_of marker i) refl h
  where
    by : (b : Bool) → is_call_of marker i ≡ b → HasBit (if b then with_operand words 0 (call_operand i 1) else 0) c → (v : ℕ) × (HasBit (name_word words v) c × ((is_call_of marker i ≡ true) × (is_local v (call_operand i 1) ≡ true)))
    by true e h = let one = (marks_operand words (λ v. false) 0 (marks_none words) (call_operand i 1)).sound c h in (one.name, (one.has, (e, one.passes)))
    by false e h = absurd (no_bit c h)

word_marked : (marker : Intrinsic) (words : List ℕ) (i : Instr) (c v : ℕ) → HasBit (name_word words v) c → is_call_of marker i ≡ true → is_local v (call_operand i 1) ≡ true → HasBit (marked marker words i) c
word_marked marker words i c v h e takes =
    subst (λ (b : Bool). HasBit (if b then with_operand words 0 (call_operand i 1) else 0) c) (sym e)
    ((marks_operand words (λ v. false) 0 (marks_none words) (call_operand i 1)).complete c v h takes)

-- the rows of markers have a question at the markers of the one name that has it
pub marker_sound : (marker : Intrinsic) (f : Function) (words : List ℕ) (c slot : ℕ) → ((v : ℕ) → HasBit (name_word words v) c → v ≡ slot) → (p : Point) →
    HasBit (word_at_point (marker_rows marker words f) p) c → has_point (points_where (is_marker_of marker slot) f) p ≡ true
marker_sound marker f words c slot only p h = ⊎_elim
    (λ here.
    let one = marker_word marker words here.instr c here.has in
    where_complete (is_marker_of marker slot) f p here.instr here.stands
    (two_true (is_call_of marker here.instr) (is_local slot (call_operand here.instr 1)) one.1.1.0 (subst (λ (v : ℕ). is_local v (call_operand here.instr 1) ≡ true) (only one.0 one.1.0) one.1.1.1)))
    (λ last. absurd (no_bit c last.has))
    (point_cases (marked marker words) (λ t. 0) f p c h)

pub marker_complete : (marker : Intrinsic) (f : Function) (words : List ℕ) (c slot : ℕ) → HasBit (name_word words slot) c → (p : Point) →
    has_point (points_where (is_marker_of marker slot) f) p ≡ true → HasBit (word_at_point (marker_rows marker words f) p) c
marker_complete marker f words c slot has p h =
    let r = where_sound (is_marker_of marker slot) f p h in
    let two = both (is_call_of marker r.instr) (is_local slot (call_operand r.instr 1)) r.passes in
    subst (λ (w : ℕ). HasBit w c) (sym (at_instr (marked marker words) (λ t. 0) f p r.instr r.is))
    (word_marked marker words r.instr c slot has two.0 two.1)

-- and have only questions of names
pub marker_name : (marker : Intrinsic) (f : Function) (words : List ℕ) (c : ℕ) (p : Point) → HasBit (word_at_point (marker_rows marker words f) p) c → (v : ℕ) × HasBit (name_word words v) c
marker_name marker f words c p h = ⊎_elim
    (λ here. let one = marker_word marker words here.instr c here.has in (one.0, one.1.0))
    (λ last. absurd (no_bit c last.has))
    (point_cases (marked marker words) (λ t. 0) f p c h)

-- the name with the question is its slot
pub slot_only : (slots words : List ℕ) → AreSlotWords slots words → (c slot : ℕ) → c < 64 → slice_get slots c ≡ Some slot → (v : ℕ) → HasBit (name_word words v) c → v ≡ slot
slot_only slots words are c slot lt is v h = some_same (slice_get slots c) v slot ((are.each v c lt).0 h) is

-- the rows of markers have the questions at the markers of their slots
pub marker_told : (marker : Intrinsic) (f : Function) (slots words : List ℕ) → AreSlotWords slots words → (c slot : ℕ) → c < 64 → slice_get slots c ≡ Some slot → (p : Point) →
    HasBit (word_at_point (marker_rows marker words f) p) c ↔ IsTrue (has_point (points_where (is_marker_of marker slot) f) p)
marker_told marker f slots words are c slot lt is p =
    (marker_sound marker f words c slot (slot_only slots words are c slot lt is) p, marker_complete marker f words c slot ((are.each slot c lt).1 is) p)

-- ---- escaped slots

any_named : (t : ℕ → Bool) (names : List ℕ) (v : ℕ) → has_name names v ≡ true → t v ≡ true → list_any t names ≡ true
any_named t [] v h k = absurd (false≢true h)
any_named t (x ∷ xs) v h k = ⊎_elim
    (λ here. or_left (t x) (list_any t xs) (subst (λ (y : ℕ). t y ≡ true) (sym (eq_from x v here)) k))
    (λ later. or_right (t x) (list_any t xs) (any_named t xs v later k))
    (either (x == v) (has_name xs v) h)

named_any : (t : ℕ → Bool) (names : List ℕ) → list_any t names ≡ true → (v : ℕ) × ((has_name names v ≡ true) × (t v ≡ true))
named_any t [] h = absurd (false≢true h)
named_any t (x ∷ xs) h = ⊎_elim
    (λ here. (x, (or_left (x == x) (has_name xs x) (eq_itself x), here)))
    (λ later. let r = named_any t xs later in (r.0, (or_right (x == r.0) (has_name xs r.0) r.1.0, r.1.1)))
    (either (t x) (list_any t xs) h)

-- the word of exposed names has the questions of the slots that escape
pub escaped_told : (f : Function) (slots words : List ℕ) → AreAddressWords f slots words → (c slot : ℕ) → c < 64 → slice_get slots c ≡ Some slot →
    HasBit (blocks_word words 0 f.blocks) c ↔ IsTrue (is_escaped f slot)
escaped_told f slots words are c slot lt is = (sound, complete)
  where
    sound : HasBit (blocks_word words 0 f.blocks) c → is_escaped f slot ≡ true
    sound h =
        let one = (marks_blocks words (λ v. false) 0 (marks_none words) f.blocks).sound c h in
        any_named (λ v. list_any (exposed_in_block v) f.blocks) (addresses_of f slot) one.name (address_of f slots words are c slot one.name lt is one.has) one.passes

    complete : is_escaped f slot ≡ true → HasBit (blocks_word words 0 f.blocks) c
    complete h =
        let r = named_any (λ v. list_any (exposed_in_block v) f.blocks) (addresses_of f slot) h in
        (marks_blocks words (λ v. false) 0 (marks_none words) f.blocks).complete c r.0 (has_address f slots words are c slot r.0 lt is r.1.0) r.1.1
