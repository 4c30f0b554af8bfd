-- Names of cells lie below the new ones.
use Rattle.pass_proofs.specs.ir_base.declared.name.Name.{Name}
use Rattle.pass_proofs.proofs.ir_laws.facts.Lists.{get_within}
use Rattle.pass_proofs.specs.pass_cells.Kept.{entry}
use Rattle.pass_proofs.specs.pass_cells.Links.{bases_of, marks_of, slots_of}
use Rattle.pass_proofs.specs.pass_cells.declared.plan.KeptValue.{KeptValue}
use Rattle.pass_proofs.specs.pass_fetch.Blocks.{numbered_names}
use Rattle.pass_frames_code.proofs.code.Names.{Count, F, First, Kept, count_is, keeping, local, numbered}
use Rattle.pass_frames_code.specs.Framings.{IsFraming}
use Rattle.pass_frames_code.specs.Lines.{IsCellOf}
use Rattle.pass_frames_code.specs.Places.{Framing, edged, named, plan}
use Rattle.pass_frames_code.specs.Related.{IsKeptValue}
use Rattle.pass_proofs.proofs.cells.rules.Fronts.{IsNumbered}
use Rattle.pass_proofs.proofs.cells.rules.Links.{IsDistanceCell, OfLink, OfValue, distance_there}
use Rattle.pass_proofs.proofs.cells.rules.Totals.{numbered_length}
use Rattle.pass_proofs.proofs.frames.begin_order.Fields.{distance_far}
use Rattle.std.proofs.Common.{◌≡◌, ℕ, ◌+◌, ◌*◌, ◌<◌, ◌≤◌, Bool, List, ◌++◌, length, refl, arith, length-append}
use Rattle.std.specs.Prelude.{Option, Some, codes, slice_get}

module _ (x : Framing) (is : IsFraming x) where
  pub names_are : length (named x).names ≡ First x is + 3 * Count x is + (plan x).links
  names_are =
      let count : ℕ = length (plan x).kept in
      let one = numbered_length (codes "$c.cell.") count in
      let two = numbered_length (codes "$c.field.") count in
      let three = numbered_length (codes "$c.distance.") count in
      let four = numbered_length (codes "$c.link.") (plan x).links in
      let a : List Name = numbered_names (codes "$c.cell.") count in
      let b : List Name = numbered_names (codes "$c.field.") count in
      let c : List Name = numbered_names (codes "$c.distance.") count in
      let d : List Name = numbered_names (codes "$c.link.") (plan x).links in
      let s1 = length-append (edged x).names a in
      let s2 = length-append ((edged x).names ++ a) b in
      let s3 = length-append (((edged x).names ++ a) ++ b) c in
      let s4 = length-append ((((edged x).names ++ a) ++ b) ++ c) d in
      let same = count_is x is in
      omega (arith, one, two, three, four, s1, s2, s3, s4, same)

  pub kept_low : (v : ℕ) (k : KeptValue) → IsKeptValue x v k → k.cell < length (named x).names
  kept_low v k kept =
      let n : IsNumbered (First x is) (Count x is) kept.number k = numbered x is kept.number k kept.there in
      let lt : kept.number < length (plan x).kept = get_within (plan x).kept kept.number k kept.there in
      let long : length (plan x).kept ≡ Count x is = count_is x is in
      let same : k.cell ≡ First x is + kept.number = n.cell in
      let all = names_are in
      omega (arith, lt, long, same, all)

  pub distance_low : (v cell : ℕ) → entry (plan x).cells v ≡ Some cell → cell < length (named x).names
  distance_low v cell e =
      let marks : List Bool =
      marks_of (bases_of (F x is)) (slots_of (local x is) (bases_of (F x is))) (Kept x is).values in
      on (entry (Kept x is).places v) cell
      (distance_there (First x is) (Count x is) (Kept x is).places marks v cell e).cell refl
    where
      on : (o : Option ℕ) (c : ℕ) → IsDistanceCell (First x is) (Count x is) (plan x).links o c
          → entry (Kept x is).places v ≡ o → c < length (named x).names
      on _ _ (OfValue at) told =
          let there : slice_get (Kept x is).values at ≡ Some v = (keeping x is).there v at told in
          let lt : at < Count x is = get_within (Kept x is).values at v there in
          let all = names_are in
          omega (arith, lt, all)
      on _ _ (OfLink i low) told = let all = names_are in omega (arith, low, all)

  -- they are cells
  pub distance_of : (v cell : ℕ) → entry (plan x).cells v ≡ Some cell → IsCellOf x cell
  distance_of v cell e =
      let marks : List Bool =
      marks_of (bases_of (F x is)) (slots_of (local x is) (bases_of (F x is))) (Kept x is).values in
      let far : First x is + 2 * Count x is ≤ cell =
      distance_far (First x is) (Count x is) (plan x).links (entry (Kept x is).places v) cell
      (distance_there (First x is) (Count x is) (Kept x is).places marks v cell e).cell in
      (omega (arith, far), distance_low v cell e)
