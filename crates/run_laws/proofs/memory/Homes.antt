-- Homes that change: what stood for a byte or a value still does.
use Rattle.std.proofs.Common.{◌≡◌, ℕ, ◌<◌, true, false, List, ◌++◌, length, set, refl, sym, ap, ◌∙◌, ⊎_elim, get_or-set_other}
use Rattle.std.proofs.lemmas.Bool.{cases_eq, cases_lt, false≢true}
use Rattle.std.proofs.lemmas.List.{get_or_append_left, get_or_past}
use Rattle.run_memory.specs.Pointers.{moved}
use Rattle.run_memory.specs.declared.block.Byte.{Byte}
use Rattle.run_memory.specs.declared.pointer.Pointer.{Pointer}
use Rattle.run_memory.specs.declared.pointer.Value.{Value}
use Rattle.run_laws.specs.memory.Pointers.{Extends, Home, IsByte, IsSeen, IsValue, home_of, moved_pointer, nowhere}

module _ (homes more : List Home) (ext : Extends homes more) where
  pub seen_on : (p : Pointer) → IsSeen homes p → IsSeen more p
  seen_on Pointer.Null h = tt
  seen_on (Pointer.Func g) h = tt
  seen_on (Pointer.At b o) h = ap (λ (q : Home). q.is_seen) (ext.each b h) ∙ h

  pub moved_on : (p : Pointer) → IsSeen homes p → moved_pointer more p ≡ moved_pointer homes p
  moved_on Pointer.Null h = refl
  moved_on (Pointer.Func g) h = refl
  moved_on (Pointer.At b o) h = ap (λ (q : Home). Pointer.At q.block (moved o q.offset)) (ext.each b h)

  pub byte_on : (c d : Byte) → IsByte homes c d → IsByte more c d
  byte_on Byte.Undefined d h = tt
  byte_on (Byte.Number k) d h = h
  byte_on (Byte.Part p k) d h = (seen_on p h.0, h.1 ∙ ap (λ (q : Pointer). Byte.Part q k) (sym (moved_on p h.0)))

  pub value_on : (v w : Value) → IsValue homes v w → IsValue more v w
  value_on Value.Poison w h = tt
  value_on (Value.Int x) w h = h
  value_on (Value.Ptr p) w h = (seen_on p h.0, h.1 ∙ ap Value.Ptr (sym (moved_on p h.0)))

-- a block that is seen is within the list
pub seen_within : (homes : List Home) (b : ℕ) → (home_of homes b).is_seen ≡ true → b < length homes
seen_within homes b e = ⊎_elim (λ lt. lt) (λ ge. absurd (false≢true (sym (ap (λ (q : Home). q.is_seen) (get_or_past homes b nowhere ge)) ∙ e))) (cases_lt b (length homes))

-- more homes
pub append_extends : (homes others : List Home) → Extends homes (homes ++ others)
append_extends homes others = record { each = λ b h. get_or_append_left homes others nowhere b (seen_within homes b h) }

-- another home for a block to which no pointer leads
pub move_extends : (homes : List Home) (b : ℕ) (q : Home) → (home_of homes b).is_seen ≡ false → Extends homes (set homes b q)
move_extends homes b q hidden = record {
  each = λ c h. ⊎_elim
      (λ e. absurd (false≢true (sym hidden ∙ ap (λ i. (home_of homes i).is_seen) (sym e) ∙ h)))
      (λ ne. get_or-set_other homes b c q nowhere ne)
      (cases_eq c b);
}

-- pointers to a block come about
pub raise_extends : (homes : List Home) (b : ℕ) (q : Home) → b < length homes → (home_of homes b).is_seen ≡ false → Extends homes (set homes b q)
raise_extends homes b q lt hidden = move_extends homes b q hidden
