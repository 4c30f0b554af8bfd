-- How many instructions fetch operands, and how many a layer of tests leaves.
use Rattle.std.proofs.Common.{◌≡◌, ℕ, ◌+◌, ◌≤◌, Bool, true, false, List, [], ◌∷◌, ◌++◌, length, refl, ap, arith}
use Rattle.std.proofs.lemmas.List.{length-append}
use Rattle.std.specs.Prelude.{None, Option, Some, if◌then◌else◌, option_to_list}
use Rattle.pass_frames_proof.specs.ir_model.declared.instr.Instr.{Instr}
use Rattle.pass_frames_proof.specs.ir_model.declared.operand.Operand.{Operand}
use Rattle.pass_frames_proof.specs.pass_fetch.Fetching.{fetch_of, fetched_operand, fetches_by, fetches_of, fetches_of_all, next_after, operand_by}
use Rattle.pass_frames_proof.specs.pass_fetch.declared.fetch.Fetch.{Fetch}
use Rattle.pass_frames_proof.specs.Layers.{becomes, grown, only}
use Rattle.pass_frames_proof.specs.Led.{fetched_all}
use Rattle.pass_frames_proof.proofs.pass_proofs.fetch.rules.Puts.{fetch_rises}

pub one_few : (n : ℕ) (o : Option Fetch) → length (fetches_by n o) ≤ 1
one_few n None = omega arith
one_few n (Some f) = omega arith

by_any : (n m : ℕ) (o : Option Fetch) → length (fetches_by n o) ≡ length (fetches_by m o)
by_any n m None = refl
by_any n m (Some f) = refl

module _ (t : List (Option Fetch)) where
  -- at most one for each operand
  pub fetches_few : (n : ℕ) (xs : List Operand) → length (fetches_of_all t n xs) ≤ length xs
  fetches_few n [] = omega arith
  fetches_few n (x ∷ xs) =
      let a = one_few n (fetch_of t x) in
      let b = fetches_few (next_after t n x) xs in
      let e = length-append (fetches_of t n x) (fetches_of_all t (next_after t n x) xs) in
      omega (arith, a, b, e)

  -- as many by any new names
  pub fetches_same : (n m : ℕ) (xs : List Operand)
      → length (fetches_of_all t n xs) ≡ length (fetches_of_all t m xs)
  fetches_same n m [] = refl
  fetches_same n m (x ∷ xs) =
      let a = by_any n m (fetch_of t x) in
      let b = fetches_same (next_after t n x) (next_after t m x) xs in
      let e = length-append (fetches_of t n x) (fetches_of_all t (next_after t n x) xs) in
      let f = length-append (fetches_of t m x) (fetches_of_all t (next_after t m x) xs) in
      omega (arith, a, b, e, f)

-- an operand is fetched by one of two tables, where the second has none of the first one's new names
module _ (t u : List (Option Fetch)) (far : ℕ) (new : (v : ℕ) → far ≤ v → fetch_of u (Operand.Local v) ≡ None) where
  once : (n m : ℕ) (x : Operand) → far ≤ n → (o : Option Fetch)
      → length (fetches_by n o) + length (fetches_by m (fetch_of u (operand_by n o x))) ≤ 1
  once n m x low None = let a = one_few m (fetch_of u x) in omega (arith, a)
  once n m x low (Some f) =
      let z : length (fetches_by m (fetch_of u (Operand.Local n))) ≡ 0 =
      ap (λ (o : Option Fetch). length (fetches_by m o)) (new n low) in
      omega (arith, z)

  pub fetched_once : (n m : ℕ) (xs : List Operand) → far ≤ n
      → length (fetches_of_all t n xs) + length (fetches_of_all u m (fetched_all t n xs)) ≤ length xs
  fetched_once n m [] low = omega arith
  fetched_once n m (x ∷ xs) low =
      let up : n ≤ next_after t n x = fetch_rises t n (x ∷ []) in
      let y : Operand = fetched_operand t n x in
      let a = once n m x low (fetch_of t x) in
      let b = fetched_once (next_after t n x) (next_after u m y) xs (omega (arith, low, up)) in
      let e = length-append (fetches_of t n x) (fetches_of_all t (next_after t n x) xs) in
      let f = length-append (fetches_of u m y) (fetches_of_all u (next_after u m y)
      (fetched_all t (next_after t n x) xs)) in
      omega (arith, a, b, e, f)

-- the operands that are fetched are as many
pub fetched_many : (t : List (Option Fetch)) (n : ℕ) (xs : List Operand) → length (fetched_all t n xs) ≡ length xs
fetched_many t n [] = refl
fetched_many t n (x ∷ xs) = let a = fetched_many t (next_after t n x) xs in omega (arith, a)

-- what passes a test is no longer
pub only_short : (test : Instr → Bool) (s : Unit {0}) (is : List Instr) → length (grown (only test) s is) ≤ length is
only_short test s [] = omega arith
only_short test s (i ∷ is) =
    let a = on (test i) in
    let b = only_short test tt is in
    let e = length-append (becomes (only test) s i) (grown (only test) tt is) in
    omega (arith, a, b, e)
  where
    on : (b : Bool) → length ([] ++ (option_to_list (if b then Some i else None) ++ [])) ≤ 1
    on true = omega arith
    on false = omega arith
