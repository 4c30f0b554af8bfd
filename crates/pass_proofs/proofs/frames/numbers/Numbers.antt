-- The numbers of a layout: no field lies behind the frame's end, which is at most 2^24.
use Rattle.std.proofs.Common.{◌≡◌, ℕ, zero, suc, ◌+◌, ◌-◌, ◌%◌, ◌<◌, ◌≤◌, ◌^◌, Bool, true, false, List, [], ◌∷◌, length, Ok, refl, sym, ap, ◌∙◌, subst, ⊎_elim, inl, inr, arith}
use Rattle.std.specs.Prelude.{nat_lt, slice_index, if◌then◌else◌}
use Rattle.std.specs.Int.{next_multiple_of}
use Rattle.std.specs.List.{list_any}
use Rattle.std.proofs.lemmas.Bool.{cases_lt, lt-ltb}
use Rattle.std.proofs.lemmas.List.{get_or_past}
use Rattle.std.proofs.lemmas.Nat.{mod_below}
use Rattle.pass_exits_proof.specs.frame_contents.Frames.{AreLaid, AreLayouts, Coroutine, IsLaid, IsLayout, NoMore, Other}
use Rattle.pass_exits_proof.specs.frame_contents.Held.{fields_of}
use Rattle.pass_exits_proof.specs.frame_contents.declared.held.Holding.{Holding}
use Rattle.pass_exits_proof.proofs.rule_laws.frame_placing.Greatest.{ends_before}
use Rattle.pass_exits_proof.specs.rule_laws.frame_placing.Ends.{end_of}
use Rattle.pass_exits_proof.specs.rule_laws.frame_placing.Placings.{IsFrame, chosen_offsets, frame_alignment}
use Rattle.pass_exits_proof.specs.rule_laws.frame_placing.declared.placing.Placing.{Placing}
use Rattle.pass_exits_proof.specs.rule_laws.frame_placing.declared.room.Room.{Room}
use Rattle.pass_exits_proof.specs.flow_solver.Paths.{IsListed}
use Rattle.pass_exits_proof.specs.frame_layout.Frames.{index_alone}
use Rattle.pass_exits_proof.specs.frame_layout.Layouts.{IsLayoutBy, index_offset, rooms_of}
use Rattle.pass_exits_proof.specs.frame_layout.declared.layout.Field.{Field}
use Rattle.pass_exits_proof.specs.frame_layout.declared.layout.Layout.{Layout}
use Rattle.pass_exits_proof.specs.frame_layout.declared.layout.Layouts.{Layouts}
use Rattle.pass_exits_proof.specs.rule_laws.frames.suspend_counts.Given.{IsGiven}
use Rattle.ir_model.specs.declared.module.Function.{Function}
use Rattle.ir_model.specs.declared.module.Module.{Module}
use Rattle.pass_frames.specs.Framed.{layout_at}
use Rattle.pass_frames.specs.Tables.{offset_at}

-- the numbers of a layout are bounded
pub record IsBounded (l : Layout) : Type 0 where
  pub size : l.size < 2 ^ 32
  pub align : l.align < 2 ^ 32
  pub index : l.index < 2 ^ 64
  pub offsets : (n : ℕ) → offset_at l n < 2 ^ 64

-- ---- offsets

offset_within : (rooms : List Room) (offsets : List ℕ) → length offsets ≡ length rooms → (n : ℕ) → slice_index offsets n ≤ end_of rooms offsets
offset_within rooms offsets same n = ⊎_elim
    (λ (lt : n < length rooms). let h = ends_before rooms offsets (length rooms) n lt in omega (arith, h))
    (λ (ge : length rooms ≤ n). let past : slice_index offsets n ≡ 0 = get_or_past offsets n 0 (omega (arith, same, ge)) in omega (arith, past))
    (cases_lt n (length rooms))

alignment_is : (b : Bool) → ((if b then 16 else 8) ≤ 16) × (0 < (if b then 16 else 8))
alignment_is true = (omega arith, omega arith)
alignment_is false = (omega arith, omega arith)

rounded : (n a : ℕ) → 0 < a → next_multiple_of n a ≤ n + a
rounded n a pos = let below = mod_below (a - n % a) a pos in omega (arith, below)

-- the fields that are laid at these offsets
module _ (func : ℕ) (fields : List Field) (offsets : List ℕ) (placing : Placing) (l : Layout) (one_each : length offsets ≡ length (rooms_of fields)) (low : end_of (rooms_of fields) offsets ≤ 2 ^ 24) (frame : IsFrame (rooms_of fields) offsets placing) (laid : IsLayoutBy func fields placing l) where
  abbrev align_of : ℕ
  align_of = frame_alignment (rooms_of fields)

  small_alignment : (placing.align ≤ 16) × (0 < placing.align)
  small_alignment = subst (λ (n : ℕ). (n ≤ 16) × (0 < n)) (sym frame.align_is) (alignment_is (list_any _ (rooms_of fields)))

  at_offset : (n : ℕ) → slice_index placing.offsets n ≤ 2 ^ 24
  at_offset n = let h : slice_index offsets n ≤ 2 ^ 24 = (let e = offset_within (rooms_of fields) offsets one_each n in omega (arith, e, low)) in subst (λ (ns : List ℕ). slice_index ns n ≤ 2 ^ 24) (sym frame.offsets_are) h

  bounded : IsBounded l
  bounded = record {
    size = (
        let up = rounded placing.end placing.align small_alignment.1 in
        let same = laid.size_is in
        let is = frame.size_is in
        let end = frame.end_is in
        let align = small_alignment.0 in
        omega (arith, up, same, is, end, align, low));
    align = (let same = laid.align_is in let align = small_alignment.0 in omega (arith, same, align));
    index = (let same = laid.index_is in let h : index_offset fields placing.offsets ≤ 2 ^ 24 = at_offset _ in omega (arith, same, h));
    offsets = λ n. (
        let same : offset_at l n ≡ slice_index placing.offsets n = ap (λ (ns : List ℕ). slice_index ns n) laid.offsets_are in
        let h = at_offset n in
        omega (arith, same, h));
  }

-- ---- the offsets that are chosen

record AreFit (rooms : List Room) (offsets : List ℕ) : Type 0 where
  one_each : length offsets ≡ length rooms
  low : end_of rooms offsets ≤ 2 ^ 24

chosen_fit : (rooms : List Room) (plain shared : List ℕ) → AreFit rooms plain → length shared ≡ length rooms → AreFit rooms (chosen_offsets rooms plain shared)
chosen_fit rooms plain shared h one = on (nat_lt (end_of rooms plain) (end_of rooms shared)) refl
  where
    on : (b : Bool) → nat_lt (end_of rooms plain) (end_of rooms shared) ≡ b → AreFit rooms (if b then plain else shared)
    on true e = h
    on false e = record {
      one_each = one;
      low = ⊎_elim
          (λ (lt : end_of rooms plain < end_of rooms shared). let no : true ≡ false = sym (lt-ltb (end_of rooms plain) (end_of rooms shared) lt) ∙ e in absurd (cc))
          (λ (ge : end_of rooms shared ≤ end_of rooms plain). let low = h.low in omega (arith, ge, low))
          (cases_lt (end_of rooms plain) (end_of rooms shared));
    }

-- ---- of a coroutine's frame

laid_bounded : (share : Bool) (f : Function) (func : ℕ) (held : List Holding) (crossing : List (ℕ × ℕ)) (l : Layout) → IsLaid share f func held crossing (Ok l) → IsBounded l
laid_bounded true f func held crossing l h =
    let fields : List Field = fields_of f held in
    let placing = h.laid.0 in
    let placed = h.laid.1 in
    let fit = chosen_fit (rooms_of fields) placed.plain placed.shared (record { one_each = placed.plain_placed.one_each; low = placed.told.0 }) placed.shared_placed.one_each in
    bounded func fields (chosen_offsets (rooms_of fields) placed.plain placed.shared) placing l fit.one_each fit.low placed.told.1 h.laid.2
laid_bounded false f func held crossing l h =
    let placed = h.1 in
    bounded func (fields_of f held) placed.plain h.0 l placed.plain_placed.one_each placed.told.0 placed.told.1 h.2

layout_bounded : (m : Module) (share : Bool) (func : ℕ) (f : Function) (l : Layout) → IsLayout m share func f (Ok l) → IsBounded l
layout_bounded m share func f l h = laid_bounded share f func h.held h.frame.crossing l h.frame.laid

-- ---- of all coroutines

all_bounded : (m : Module) (share : Bool) (k : ℕ) (fs : List Function) (all : List Layout) → AreLaid m share k fs all → (l : Layout) → IsListed l all → IsBounded l
all_bounded m share k _ _ (NoMore _) l at = absurd at
all_bounded m share k _ _ (Other _ f fs all plain rest) l at = all_bounded m share (k + 1) fs all rest l at
all_bounded m share k _ _ (Coroutine _ f fs layout all is own rest) l (inl e) = subst IsBounded (sym e) (layout_bounded m share k f layout own)
all_bounded m share k _ _ (Coroutine _ f fs layout all is own rest) l (inr at) = all_bounded m share (k + 1) fs all rest l at

alone_offset : (n : ℕ) → offset_at (index_alone 0 0) n ≤ 16
alone_offset zero = omega arith
alone_offset (suc n) = let past : offset_at (index_alone 0 0) (suc n) ≡ 0 = get_or_past (16 ∷ []) (suc n) 0 (omega arith) in omega (arith, past)

alone_bounded : IsBounded (index_alone 0 0)
alone_bounded = record { size = omega arith; align = omega arith; index = omega arith; offsets = λ n. (let h = alone_offset n in omega (arith, h)) }

pub given_bounded : (m : Module) (share : Bool) (layouts : Layouts) → AreLayouts m share (Ok layouts) → (l : Layout) → IsGiven layouts.coroutines l → IsBounded l
given_bounded m share layouts laid l (inl at) = all_bounded m share 0 m.functions layouts.coroutines laid l at
given_bounded m share layouts laid l (inr e) = subst IsBounded (sym e) alone_bounded

pub all_near : (m : Module) (share : Bool) (layouts : Layouts) → AreLayouts m share (Ok layouts) → (l : Layout) → IsGiven layouts.coroutines l → (n : ℕ) → offset_at l n < 2 ^ 64
all_near m share layouts laid l given = (given_bounded m share layouts laid l given).offsets

-- ---- which layouts are given

pub number_given : (layouts : List Layout) (k : ℕ) → IsGiven layouts (layout_at layouts k)
number_given [] k = inr refl
number_given (l ∷ ls) zero = inl (inl refl)
number_given (l ∷ ls) (suc k) = ⊎_elim (λ at. inl (inr at)) (λ e. inr e) (number_given ls k)
