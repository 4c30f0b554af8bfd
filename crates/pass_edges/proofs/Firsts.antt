-- The first operand for a label, one operand further, and where it stands.
use Rattle.std.proofs.Common.{◌≡◌, ℕ, zero, suc, ◌+◌, ◌<◌, Bool, true, false, List, [], ◌∷◌, length, take, get_or, refl, ap, sym, ◌∙◌, arith, Option, Some, None}
use Rattle.std.specs.Prelude.{option_map, if◌then◌else◌, ◌==◌}
use Rattle.pass_edges.specs.EdgeBlocks.{operand_from}
use Rattle.pass_edges.specs.Positions.{operand_at, or_at}
use Rattle.ir_model.specs.Names.{first_where}
use Rattle.ir_model.specs.declared.instr.Incoming.{Incoming}
use Rattle.ir_model.specs.declared.operand.Operand.{Operand}

or_at-suc : (o : Option ℕ) (b : Bool) (i : ℕ) → option_map suc (or_at o b i) ≡ or_at (option_map suc o) b (suc i)
or_at-suc (Some k) b i = refl
or_at-suc None true i = refl
or_at-suc None false i = refl

or_at-if : (o p : Option ℕ) (b c : Bool) (i : ℕ) → p ≡ or_at o b i → (if c then Some 0 else option_map suc p) ≡ or_at (if c then Some 0 else option_map suc o) b (suc i)
or_at-if o p b true i e = refl
or_at-if o p b false i e = ap (λ (q : Option ℕ). option_map suc q) e ∙ or_at-suc o b i

alone : (b : Bool) → (if b then Some 0 else None) ≡ or_at None b 0
alone true = refl
alone false = refl

first-suc : (n : ℕ) (is : List Incoming) (i : ℕ) (x : Incoming) → i < length is → x ≡ get_or is i x → first_where (λ i. i.from == n) (take (suc i) is) ≡ or_at (first_where (λ i. i.from == n) (take i is)) (x.from == n) i
first-suc n [] i x lt e = absurd (omega arith)
first-suc n (y ∷ is) zero x lt e = alone (y.from == n) ∙ ap (λ (z : Incoming). or_at None (z.from == n) 0) (sym e)
first-suc n (y ∷ is) (suc i) x lt e =
    or_at-if (first_where (λ i. i.from == n) (take i is)) (first_where (λ i. i.from == n) (take (suc i) is)) (x.from == n) (y.from == n) i (first-suc n is i x (omega arith) e)

-- one operand more in the positions
pub first-next : (n : ℕ) (is : List Incoming) (i : ℕ) (x : Incoming) → i < length is → x ≡ get_or is i x → (old new : Option ℕ) → old ≡ first_where (λ i. i.from == n) (take i is) → new ≡ or_at old ((get_or is i x).from == n) i → new ≡ first_where (λ i. i.from == n) (take (i + 1) is)
first-next n is i x lt e old new h u =
    let one : suc i ≡ i + 1 = omega arith in
    u
    ∙ ap (λ (z : Incoming). or_at old (z.from == n) i) (sym e)
    ∙ ap (λ (o : Option ℕ). or_at o (x.from == n) i) h
    ∙ sym (first-suc n is i x lt e)
    ∙ ap (λ (k : ℕ). first_where (λ i. i.from == n) (take k is)) one

found-by : (b : Bool) (i : Incoming) (is : List Incoming) (o : Option ℕ) (rest : Option Operand) → operand_at is o ≡ rest → operand_at (i ∷ is) (if b then Some 0 else option_map suc o) ≡ (if b then Some i.value else rest)
found-by true i is o rest e = refl
found-by false i is None rest e = e
found-by false i is (Some k) rest e = e

-- the operand at the first position
pub operand_at-first : (is : List Incoming) (n : ℕ) → operand_at is (first_where (λ i. i.from == n) is) ≡ operand_from is n
operand_at-first [] n = refl
operand_at-first (i ∷ is) n =
    found-by (i.from == n) i is (first_where (λ j. j.from == n) is) (operand_from is n) (operand_at-first is n)
