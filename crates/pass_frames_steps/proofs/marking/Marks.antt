-- What a marker does to a memory: one block changes, in its life and bytes alone.
use Rattle.std.proofs.Common.{◌≡◌, ◌≢◌, ◌⊎◌, ◌+◌, ◌<◌, ◌≤◌, ◌∙◌, if◌then◌else◌, Bool, List, Option, Some, ap, arith, false, inr, length, refl, replicate, subst, sym, true, ℕ, ⊎_elim}
use Rattle.std.proofs.lemmas.Bool.{cases_eq}
use Rattle.std.specs.Prelude.{slice_get}
use Rattle.pass_frames_code.proofs.ir_laws.facts.Lists.{get_within}
use Rattle.pass_frames_steps.proofs.marking.Changed.{changed_length, free_changed, hiding_same, mates_changed, muted_others}
use Rattle.pass_frames_code.proofs.stepping.Rest.{got}
use Rattle.pass_frames_code.specs.Related.{AreMates, IsFreeOf, is_slot}
use Rattle.pass_frames_code.proofs.run_laws.memory.Written.{changed_elsewhere, changed_here, same_some}
use Rattle.pass_frames_code.proofs.run_laws.transfer.Muted.{muted_get}
use Rattle.pass_frames_code.proofs.run_laws.transfer.Places.{blank_room, fewer_stand, hidden_stand, seated}
use Rattle.pass_frames_code.specs.run_laws.embedded.Making.{whole_home}
use Rattle.pass_frames_code.specs.run_laws.memory.Pointers.{Home, home_of}
use Rattle.pass_frames_code.specs.run_laws.memory.Standing.{Stands}
use Rattle.pass_frames_code.specs.run_laws.transfer.Muted.{muted}
use Rattle.pass_frames_code.specs.run_laws.transfer.Places.{AreStanding, HasRoom, IsApartFrom, IsBlank}
use Rattle.pass_frames_code.specs.run_memory.Memory.{Rights, end, ended, is_killed, is_live, may_compare_at, same_kind, start, started, with_block}
use Rattle.pass_frames_code.specs.run_memory.declared.block.Byte.{Byte}
use Rattle.pass_frames_code.specs.run_memory.declared.block.Kind.{Kind}
use Rattle.pass_frames_code.specs.run_memory.declared.block.Life.{Life}
use Rattle.pass_frames_code.specs.run_memory.declared.block.MemoryBlock.{MemoryBlock}
use Rattle.pass_frames_code.specs.run_memory.declared.pointer.Offset.{Offset}
use Rattle.pass_frames_code.specs.run_memory.declared.pointer.Value.{Value}
use Rattle.pass_frames_code.specs.run_step.Step.{block_of, on_block}
use Rattle.pass_frames_code.specs.run_step.Values.{pointer_to}

abbrev pub mark : Bool → MemoryBlock → MemoryBlock
mark true x = started x
mark false x = ended x

-- by the value of the slot's name
abbrev pub marked_by : Bool → List MemoryBlock → Value → List MemoryBlock
marked_by starts m v = on_block (if starts then start else end) m (block_of v)

pub marks_block : (starts : Bool) (m : List MemoryBlock) (v : Value) (n : ℕ) → v ≡ pointer_to n
    → marked_by starts m v ≡ with_block m n (mark starts)
marks_block true m v n e = ap (λ (u : Value). on_block start m (block_of u)) e
marks_block false m v n e = ap (λ (u : Value). on_block end m (block_of u)) e

pub marks_none : (starts : Bool) (m : List MemoryBlock) (v : Value) → v ≡ Value.Poison → marked_by starts m v ≡ m
marks_none starts m v e = ap (λ (u : Value). marked_by starts m u) e

-- ---- the block

pub record IsMarkOf (x y : MemoryBlock) : Type 0 where
  pub size : y.size ≡ x.size
  pub align : y.align ≡ x.align
  pub kind : y.kind ≡ x.kind

chosen : (c : Bool) (x y : MemoryBlock) → y.size ≡ x.size → y.align ≡ x.align → y.kind ≡ x.kind
    → IsMarkOf x (if c then x else y)
chosen true x y s a k = record { size = refl; align = refl; kind = refl }
chosen false x y s a k = record { size = s; align = a; kind = k }

pub mark_is : (starts : Bool) (x : MemoryBlock) → IsMarkOf x (mark starts x)
mark_is true x =
    chosen (is_killed x.life) x (record x { life = Life.Live; bytes = replicate x.size Byte.Undefined }) refl refl refl
mark_is false x = chosen (is_killed x.life) x (record x { life = Life.Ended }) refl refl refl

killed_dead : (l : Life) → is_killed l ≡ true → is_live l ≡ true → ⊥
killed_dead Life.Live k e = cc
killed_dead Life.Ended k e = cc
killed_dead Life.Killed k e = cc

-- one that is ended isn't live
pub end_dead : (x : MemoryBlock) → is_live (mark false x).life ≡ true → ⊥
end_dead x live = on (is_killed x.life) refl live
  where
    on : (c : Bool) → is_killed x.life ≡ c → is_live (if c then x else record x { life = Life.Ended }).life ≡ true → ⊥
    on true e h = killed_dead x.life e h
    on false e h = cc

-- one that lives behind a start is blank
pub start_blank : (x : MemoryBlock) → is_live (mark true x).life ≡ true → IsBlank (mark true x)
start_blank x live = on (is_killed x.life) refl live
  where
    on : (c : Bool) → is_killed x.life ≡ c
        → is_live (if c then x else record x { life = Life.Live; bytes = replicate x.size Byte.Undefined }).life ≡ true
        → IsBlank (if c then x else record x { life = Life.Live; bytes = replicate x.size Byte.Undefined })
    on true e h = absurd (killed_dead x.life e h)
    on false e h = refl

-- and wasn't killed
pub start_unkilled : (x : MemoryBlock) → is_live (mark true x).life ≡ true → is_killed x.life ≡ false
start_unkilled x live = on (is_killed x.life) refl live
  where
    on : (c : Bool) → is_killed x.life ≡ c
        → is_live (if c then x else record x { life = Life.Live; bytes = replicate x.size Byte.Undefined }).life ≡ true
        → is_killed x.life ≡ false
    on true e h = absurd (killed_dead x.life e h)
    on false e h = e

-- ---- the memory

pub record IsMarkedAt (starts : Bool) (m k : List MemoryBlock) (n : ℕ) : Type 0 where
  pub others : (d : ℕ) → d ≢ n → slice_get k d ≡ slice_get m d
  pub long : length k ≡ length m
  pub here : (x : MemoryBlock) → slice_get k n ≡ Some x
      → (y : MemoryBlock) × (slice_get m n ≡ Some y) × (x ≡ mark starts y)

pub marked_at : (starts : Bool) (m : List MemoryBlock) (n : ℕ) → IsMarkedAt starts m (with_block m n (mark starts)) n
marked_at starts m n = record {
  others = λ d ne. changed_elsewhere m n d (mark starts) ne;
  long = changed_length m n (mark starts);
  here = λ x e.
      let lt : n < length (with_block m n (mark starts)) = get_within (with_block m n (mark starts)) n x e in
      let long = changed_length m n (mark starts) in
      let y = got m n (omega (arith, lt, long)) in
      (y.0, y.1, same_some x (mark starts y.0) (sym e ∙ changed_here m n (mark starts) y.0 y.1));
}

module _ (rights target : Rights) (homes : List Home) (hides : ℕ → Bool) (m k n : List MemoryBlock) (b : ℕ)
    (starts : Bool) (is : IsMarkedAt starts m k b) where
  kinds : (x : MemoryBlock) → slice_get k b ≡ Some x
      → (y : MemoryBlock) × (slice_get m b ≡ Some y) × (is_slot y ≡ is_slot x)
  kinds x e =
      let y = is.here x e in (
        y.0,
        y.1,
        ap (λ (d : Kind). same_kind d Kind.Slot) (sym (ap (λ (z : MemoryBlock). z.kind) y.2
            ∙ (mark_is starts y.0).kind)),
      )

  sizes : (x : MemoryBlock) → slice_get k b ≡ Some x
      → (y : MemoryBlock) × (slice_get m b ≡ Some y) × (y.size ≡ x.size)
  sizes x e =
      let y = is.here x e in
      (y.0, y.1, sym (ap (λ (z : MemoryBlock). z.size) y.2 ∙ (mark_is starts y.0).size))

  pub mates_marked : ((q : ℕ) → home_of homes b ≡ whole_home q → ⊥) → AreMates homes m n → AreMates homes k n
  mates_marked apart = mates_changed homes hides m k b is.others is.long n apart kinds

  pub free_marked : ((home_of homes b).is_seen ≡ true) ⊎ (hides b ≡ true) → (block : ℕ)
      → IsFreeOf homes hides m block → IsFreeOf homes hides k block
  free_marked = free_changed homes hides m k b is.others is.long

  -- of a hidden block the target sees nothing
  pub hidden_marked : hides b ≡ true → (home_of homes b).is_seen ≡ false
      → AreStanding rights target homes (muted hides m) n → AreStanding rights target homes (muted hides k) n
  hidden_marked hidden unseen st =
      subst (λ (hs : ℕ → Bool). AreStanding rights target homes (muted hs k) n) (hiding_same hides b hidden)
      (hidden_stand rights target homes hides m k n b unseen is.others sizes st)

  muted_here : hides b ≡ false → (x : MemoryBlock) → slice_get (muted hides k) b ≡ Some x
      → (y : MemoryBlock) × (slice_get (muted hides m) b ≡ Some y) × (slice_get m b ≡ Some y) × (x ≡ mark starts y)
  muted_here shown x e =
      let y = is.here x (sym (muted_get hides k b shown) ∙ e) in
      (y.0, muted_get hides m b shown ∙ y.1, y.1, y.2)

  all_sizes : hides b ≡ false → (d : ℕ) (x : MemoryBlock) → slice_get (muted hides k) d ≡ Some x
      → (y : MemoryBlock) × (slice_get (muted hides m) d ≡ Some y) × (y.size ≡ x.size)
  all_sizes shown d x e =
      ⊎_elim
      (λ same.
      let y = muted_here shown x (subst (λ (q : ℕ). slice_get (muted hides k) q ≡ Some x) same e) in (
        y.0,
        subst (λ (q : ℕ). slice_get (muted hides m) q ≡ Some y.0) (sym same) y.1,
        sym (ap (λ (z : MemoryBlock). z.size) y.3 ∙ (mark_is starts y.0).size),
      ))
      (λ ne. (x, sym (muted_others homes hides m k b is.others is.long d ne) ∙ e, refl)) (cases_eq d b)

-- one that ends stands no longer
pub end_stands : (rights target : Rights) (homes : List Home) (hides : ℕ → Bool) (m k n : List MemoryBlock) (b : ℕ)
    → IsMarkedAt false m k b → hides b ≡ false
    → ((c : ℕ) (x : Option MemoryBlock) (o : Offset) → may_compare_at target c x o ≡ true)
    → AreStanding rights target homes (muted hides m) n → AreStanding rights target homes (muted hides k) n
end_stands rights target homes hides m k n b is shown compares =
    fewer_stand rights target homes (muted hides m) (muted hides k) n (record {
      live = λ d x e live.
          ⊎_elim
          (λ same.
          let y = muted_here rights target homes hides m k n b false is shown x
          (subst (λ (q : ℕ). slice_get (muted hides k) q ≡ Some x) same e) in
          absurd (end_dead y.0 (ap (λ (z : MemoryBlock). is_live z.life) (sym y.3) ∙ live)))
          (λ ne. sym (muted_others homes hides m k b is.others is.long d ne) ∙ e) (cases_eq d b);
      nulls = λ d seen. inr (record { each = λ o. compares _ _ _ });
      sizes = all_sizes rights target homes hides m k n b false is shown;
    })

-- one that starts stands where there is room, apart from all others
pub start_stands : (rights target : Rights) (homes : List Home) (hides : ℕ → Bool) (m k n : List MemoryBlock) (b : ℕ)
    → IsMarkedAt true m k b → hides b ≡ false → b < length homes
    → ((c : ℕ) (x : Option MemoryBlock) (o : Offset) → may_compare_at target c x o ≡ true)
    → ((y : MemoryBlock) → slice_get m b ≡ Some y → is_live (mark true y).life ≡ true
    → HasRoom rights target n (home_of homes b) b (mark true y)
    × IsApartFrom rights homes (muted hides m) (home_of homes b) b (mark true y))
    → AreStanding rights target homes (muted hides m) n → AreStanding rights target homes (muted hides k) n
start_stands rights target homes hides m k n b is shown lt compares room st =
    seated rights target homes homes (muted hides m) (muted hides k) n b (record {
      extends = record { each = λ d e. refl };
      long = omega arith;
      others = λ d ne. refl;
      same = muted_others homes hides m k b is.others is.long;
      stands = λ x e live.
          let y = muted_here rights target homes hides m k n b true is shown x e in
          let lives : is_live (mark true y.0).life ≡ true = ap (λ (z : MemoryBlock). is_live z.life) (sym y.3) ∙ live in
          subst (Stands rights target homes n b) (sym y.3)
          (blank_room rights target homes n b (mark true y.0) lt (start_blank y.0 lives) (room y.0 y.2 lives).0);
      apart = λ x e live.
          let y = muted_here rights target homes hides m k n b true is shown x e in
          let lives : is_live (mark true y.0).life ≡ true = ap (λ (z : MemoryBlock). is_live z.life) (sym y.3) ∙ live in
          subst (IsApartFrom rights homes (muted hides m) (home_of homes b) b) (sym y.3) (room y.0 y.2 lives).1;
      seen = λ about. record {
        nulls = λ o e. compares _ _ _;
        bounds = λ z e.
            let y = all_sizes rights target homes hides m k n b true is shown b z e in
            let h = st.bounds.each b y.0 about y.1 in
            record {
              block = h.block;
              there = h.there;
              fits = subst (λ (l : ℕ). (home_of homes b).offset + l ≤ h.block.size) y.2 h.fits;
              small = h.small;
            };
      };
    }) st
