-- Positions of fields.
use Rattle.std.proofs.Common.{◌≡◌, ℕ, zero, suc, ◌+◌, ◌≤◌, Bool, true, false, List, Option, None, Some, length, drop, get_or, map, replicate, Result, Ok, Err, refl, sym, ap, subst, ◌∙◌}
use Rattle.std.specs.Prelude.{◌==◌, if◌then◌else◌, slice_get}
use Rattle.std.proofs.lemmas.List.{drop_all}
use mathlib.Core.Path.{fun_ext}
use Rattle.frame_contents.specs.Frames.{ArePositions, IfKnown, IsLaid, IsSharedBy, conflicts_of}
use Rattle.frame_contents.specs.Held.{at_fields, both_at_fields, fields_of, position_from, position_of, slot_position}
use Rattle.frame_contents.specs.Tables.{first_some}
use Rattle.frame_contents.specs.declared.held.Holding.{Holding}
use Rattle.frame_layout.specs.Conflicts.{field_conflicts}
use Rattle.frame_layout.specs.Layouts.{IsLaidOut}
use Rattle.frame_layout.specs.declared.layout.Field.{Field}
use Rattle.frame_layout.specs.declared.layout.Layout.{Layout}
use Rattle.frame_layout.specs.declared.laying.LayoutError.{LayoutError}
use Rattle.ir_model.specs.declared.module.Function.{Function}
use Rattle.ir_paths.specs.Slots.{allocas_of}
use Rattle.frame_contents.proofs.Underway.{cut}

none_placed : (n v : ℕ) → get_or (replicate {A = Option ℕ} n None) v None ≡ None
none_placed zero v = refl
none_placed (suc n) zero = refl
none_placed (suc n) (suc v) = none_placed n v

pub positions_begun : (n : ℕ) (held : List Holding) (table : List (Option ℕ)) → table ≡ replicate n None → (v : ℕ) → first_some (get_or table v None) (position_from 0 held v) ≡ position_of held v
positions_begun n held table is v = ap (λ (a : Option ℕ). first_some a (position_from 0 held v)) (ap (λ (l : List (Option ℕ)). get_or l v None) is ∙ none_placed n v)

join : (a y : Option ℕ) (t : Bool) (k : ℕ) → first_some (first_some a (if t then Some k else None)) y ≡ first_some a (if t then Some k else y)
join None y true k = refl
join None y false k = refl
join (Some x) y t k = refl

pub positions_kept : (held : List Holding) (k : ℕ) (h : Holding) (old new : List (Option ℕ)) → slice_get held k ≡ Some h → ((v : ℕ) → first_some (get_or old v None) (position_from k (drop k held) v) ≡ position_of held v) →
    ((v : ℕ) → get_or new v None ≡ first_some (get_or old v None) (if h.value == v then Some k else None)) → (v : ℕ) → first_some (get_or new v None) (position_from (k + 1) (drop (k + 1) held) v) ≡ position_of held v
positions_kept held k h old new at inv grown v =
    ap (λ (a : Option ℕ). first_some a (position_from (k + 1) (drop (k + 1) held) v)) (grown v)
    ∙ join (get_or old v None) (position_from (k + 1) (drop (k + 1) held) v) (h.value == v) k
    ∙ ap (λ (y : Option ℕ). first_some (get_or old v None) y) (sym (ap (λ (l : List Holding). position_from k l v) (cut held k h at)))
    ∙ inv v

some_none : (a : Option ℕ) → first_some a None ≡ a
some_none None = refl
some_none (Some x) = refl

pub positions_done : (held : List Holding) (k : ℕ) (table : List (Option ℕ)) → length held ≤ k → ((v : ℕ) → first_some (get_or table v None) (position_from k (drop k held) v) ≡ position_of held v) → ArePositions held table
positions_done held k table le inv v =
    sym (some_none (get_or table v None)) ∙ ap (λ (y : Option ℕ). first_some (get_or table v None) y) (sym (ap (λ (l : List Holding). position_from k l v) (drop_all k held le))) ∙ inv v

-- a table by names says what the positions say
abbrev pub told : List (Option ℕ) → ℕ → Option ℕ
told table v = get_or table v None

abbrev pub slot_told : (ℕ → Option ℕ) → List ℕ → ℕ → Option ℕ
slot_told at allocas i = get_or (map at allocas) i None

pub by_name : (held : List Holding) (table : List (Option ℕ)) → ArePositions held table → told table ≡ position_of held
by_name held table h = fun_ext h

pub by_slot : (held : List Holding) (table : List (Option ℕ)) (allocas : List ℕ) → ArePositions held table → slot_told (told table) allocas ≡ slot_told (position_of held) allocas
by_slot held table allocas h = ap (λ (t : ℕ → Option ℕ). slot_told t allocas) (by_name held table h)

pub known : (P : Result Layout LayoutError → Type 0) (result : Result Layout LayoutError) → P result → IfKnown P result
known P (Ok layout) h = h
known P (Err LayoutError.FrameTooLarge) h = h
known P (Err LayoutError.OutOfMemory) h = tt

known_of : (P Q : Result Layout LayoutError → Type 0) (result : Result Layout LayoutError) → (P result → Q result) → IfKnown P result → IfKnown Q result
known_of P Q (Ok layout) to h = to h
known_of P Q (Err LayoutError.FrameTooLarge) to h = to h
known_of P Q (Err LayoutError.OutOfMemory) to h = tt

same_conflicts : (fields : List Field) (crossing alive conflicts : List (ℕ × ℕ)) (a b c d : ℕ → Option ℕ) → a ≡ b → c ≡ d →
    field_conflicts fields (at_fields a crossing) (at_fields c alive) (both_at_fields c conflicts) ≡ field_conflicts fields (at_fields b crossing) (at_fields d alive) (both_at_fields d conflicts)
same_conflicts fields crossing alive conflicts a b c d p q =
    ap (λ (t : ℕ → Option ℕ). field_conflicts fields (at_fields t crossing) (at_fields c alive) (both_at_fields c conflicts)) p
    ∙ ap (λ (t : ℕ → Option ℕ). field_conflicts fields (at_fields b crossing) (at_fields t alive) (both_at_fields t conflicts)) q

pub shared_laid : (f : Function) (func : ℕ) (share : Bool) (held : List Holding) (crossing : List (ℕ × ℕ)) (allocas : List ℕ) (fields fields2 : List Field) (table : List (Option ℕ)) (result : Result Layout LayoutError) →
    share ≡ true → fields ≡ fields_of f held → fields2 ≡ fields → allocas ≡ allocas_of f → ArePositions held table → IfKnown (IsSharedBy f func allocas fields2 table crossing) result → IfKnown (IsLaid share f func held crossing) result
shared_laid f func share held crossing allocas fields fields2 table result is fields_are same allocas_are positions h =
    known_of (IsSharedBy f func allocas fields2 table crossing) (IsLaid share f func held crossing) result
    (λ (p : IsSharedBy f func allocas fields2 table crossing result). subst (λ (s : Bool). IsLaid s f func held crossing result) (sym is) (record {
      alive = p.alive;
      alive_are = p.alive_are;
      conflicts = p.conflicts;
      conflicts_are = p.conflicts_are;
      laid = subst (λ (l : List (ℕ × ℕ)). IsLaidOut func (fields_of f held) l result) (conflicts_are p.alive p.conflicts)
          (subst (λ (l : List Field). IsLaidOut func l (field_conflicts l (at_fields (told table) crossing) (at_fields (slot_told (told table) allocas) p.alive) (both_at_fields (slot_told (told table) allocas) p.conflicts)) result)
          (same ∙ fields_are) p.laid);
    }))
    h
  where
    conflicts_are : (alive conflicts : List (ℕ × ℕ)) →
        field_conflicts (fields_of f held) (at_fields (told table) crossing) (at_fields (slot_told (told table) allocas) alive) (both_at_fields (slot_told (told table) allocas) conflicts) ≡ conflicts_of f held crossing alive conflicts
    conflicts_are alive conflicts =
        same_conflicts (fields_of f held) crossing alive conflicts (told table) (position_of held) (slot_told (told table) allocas) (slot_position f held) (by_name held table positions)
        (by_slot held table allocas positions ∙ ap (λ (l : List ℕ). slot_told (position_of held) l) allocas_are)
