-- The first part of two lists, one behind the other.
use Rattle.std.proofs.Common.{◌≡◌, ℕ, ◌+◌, sym, Bool, true, false, List, [], ◌∷◌, ◌++◌, refl, ap, ◌∙◌}
use Rattle.std.specs.Prelude.{Option, Some, None}
use Rattle.ir_model.specs.ir_base.declared.outcome.Place.{Place}
use Rattle.ir_model.specs.declared.module.Block.{Block}
use Rattle.ir_parts.specs.Parts.{Part, block_parts, blocks_parts, first_in_blocks, first_part, or_place, place_if}

or_place_by : (b : Bool) (p : Place) (o q : Option Place) → or_place (place_if b p) (or_place o q) ≡ or_place (or_place (place_if b p) o) q
or_place_by true p o q = refl
or_place_by false p o q = refl

pub first_part_append : (breaks : Place → Part → Bool) (xs ys : List (Place × Part)) → first_part breaks (xs ++ ys) ≡ or_place (first_part breaks xs) (first_part breaks ys)
first_part_append breaks [] ys = refl
first_part_append breaks (x ∷ xs) ys =
    ap (or_place (place_if (breaks x.0 x.1) x.0)) (first_part_append breaks xs ys) ∙ or_place_by (breaks x.0 x.1) x.0 (first_part breaks xs) (first_part breaks ys)

pub first_in_blocks_is : (breaks : Place → Part → Bool) (func block : ℕ) (bs : List Block) → first_in_blocks breaks func block bs ≡ first_part breaks (blocks_parts func block bs)
first_in_blocks_is breaks func block [] = refl
first_in_blocks_is breaks func block (b ∷ bs) =
    ap (or_place (first_part breaks (block_parts func block b))) (first_in_blocks_is breaks func (block + 1) bs)
    ∙ sym (first_part_append breaks (block_parts func block b) (blocks_parts func (block + 1) bs))
