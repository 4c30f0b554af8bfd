-- Places of lists, and places of points.
use Rattle.std.proofs.Common.{◌≡◌, ℕ, zero, suc, ◌+◌, ◌*◌, ◌/◌, ◌%◌, ◌<◌, ◌≤◌, ◌⊎◌, Bool, true, false, List, [], ◌∷◌, ◌++◌, length, map, take, drop, Some, None, Option, refl, sym, ap, ◌∙◌, subst, ⊎_elim, inl, inr, arith, eq-eqb}
use Rattle.std.specs.Prelude.{min, option_map, slice_get, unwrap_or, ◌==◌}
use Rattle.std.specs.Int.{bit_at}
use Rattle.std.proofs.lemmas.Bool.{cases_lt, eqb-true, false≢true}
use Rattle.std.proofs.lemmas.Option.{slice_get_within}
use Rattle.flow_bits.specs.Bits.{HasBit}
use Rattle.frame_classes.specs.flow_blocks.Words.{word_at}
use Rattle.flow_solver.specs.Paths.{IsListed}
use Rattle.ir_model.specs.declared.instr.Instr.{Instr}
use Rattle.ir_model.specs.declared.module.Block.{Block}
use Rattle.ir_model.specs.declared.module.Function.{Function}
use Rattle.ir_paths.proofs.Search.{either, or_left, or_right, same_point-itself, same_point-same}
use Rattle.ir_paths.specs.Paths.{has_point, same_point}
use Rattle.ir_paths.specs.Windows.{instr_at, instr_in}
use Rattle.ir_paths.specs.declared.point.Point.{Point}
use Rattle.frame_classes.proofs.flow_reach.Bits.{no_bit}
use Rattle.frame_classes.specs.flow_reach.Reached.{IsPointOf}

pub no_some : {X : Type 0} (x : X) → None ≡ Some x → ⊥
no_some x e = absurd (cc)

pub taken_at : {X : Type 0} (n k : ℕ) (xs : List X) → k < n → slice_get (take n xs) k ≡ slice_get xs k
taken_at zero k xs lt = absurd (omega arith)
taken_at (suc n) k [] lt = refl
taken_at (suc n) zero (x ∷ xs) lt = refl
taken_at (suc n) (suc k) (x ∷ xs) lt = taken_at n k xs (omega arith)

pub dropped_at : {X : Type 0} (n k : ℕ) (xs : List X) → slice_get (drop n xs) k ≡ slice_get xs (n + k)
dropped_at zero k xs = let z : k ≡ 0 + k = omega arith in ap (slice_get xs) z
dropped_at (suc n) k [] = refl
dropped_at (suc n) k (x ∷ xs) = let s : suc (n + k) ≡ suc n + k = omega arith in dropped_at n k xs ∙ ap (slice_get (x ∷ xs)) s

-- the slot of a position in its chunk
pub in_chunk : {X : Type 0} (xs : List X) (chunk i : ℕ) → i / 64 ≡ chunk → slice_get (take 64 (drop (64 * chunk) xs)) (i % 64) ≡ slice_get xs i
in_chunk xs chunk i e =
    let small : i % 64 < 64 = omega arith in
    let whole : 64 * chunk + i % 64 ≡ i = omega (arith, e) in
    taken_at 64 (i % 64) (drop (64 * chunk) xs) small ∙ dropped_at (64 * chunk) (i % 64) xs ∙ ap (slice_get xs) whole

pub same_chunk : (chunk n : ℕ) → chunk * 64 ≤ n → n < chunk * 64 + 64 → n / 64 ≡ chunk
same_chunk chunk n le lt = omega arith

pub short_chunk : {X : Type 0} (xs : List X) (n : ℕ) → length (take n xs) ≤ n
short_chunk xs zero = omega arith
short_chunk [] (suc n) = omega arith
short_chunk (x ∷ xs) (suc n) = let le = short_chunk xs n in omega (arith, le)

-- ---- words

pub word_some : (words : List ℕ) (k c : ℕ) → HasBit (word_at words k) c → (w : ℕ) × (slice_get words k ≡ Some w) × HasBit w c
word_some words k c h = by (slice_get words k) refl h
  where
    by : (o : Option ℕ) → slice_get words k ≡ o → HasBit (unwrap_or o 0) c → (w : ℕ) × (slice_get words k ≡ Some w) × HasBit w c
    by None e has = absurd (no_bit c has)
    by (Some w) e has = (w, e, has)

pub bit_within : (words : List ℕ) (k c : ℕ) → HasBit (word_at words k) c → k < length words
bit_within words k c h = let found = word_some words k c h in slice_get_within words k found.0 found.1

pub word_of_some : (words : List ℕ) (k w : ℕ) → slice_get words k ≡ Some w → word_at words k ≡ w
word_of_some words k w e = ap (λ (o : Option ℕ). unwrap_or o 0) e

pub map_some : {X Y : Type 0} (g : X → Y) (xs : List X) (k : ℕ) (x : X) → slice_get xs k ≡ Some x → slice_get (map g xs) k ≡ Some (g x)
map_some g [] k x e = absurd (cc)
map_some g (y ∷ xs) zero x e = let same : y ≡ x = cc in ap (λ z. Some (g z)) same
map_some g (y ∷ xs) (suc k) x e = map_some g xs k x e

pub some_map : {X Y : Type 0} (g : X → Y) (xs : List X) (k : ℕ) (y : Y) → slice_get (map g xs) k ≡ Some y → (x : X) × (slice_get xs k ≡ Some x) × (y ≡ g x)
some_map g [] k y e = absurd (cc)
some_map g (x ∷ xs) zero y e = let same : g x ≡ y = cc in (x, refl, sym same)
some_map g (x ∷ xs) (suc k) y e = some_map g xs k y e

-- ---- points

pub listed_has : (ps : List Point) (p : Point) → IsListed p ps → has_point ps p ≡ true
listed_has [] p h = absurd h
listed_has (q ∷ ps) p h = ⊎_elim
    (λ e. or_left (same_point p q) (has_point ps p) (ap (λ (x : Point). same_point p x) (sym e) ∙ same_point-itself p))
    (λ later. or_right (same_point p q) (has_point ps p) (listed_has ps p later))
    h

pub has_listed : (ps : List Point) (p : Point) → has_point ps p ≡ true → IsListed p ps
has_listed [] p h = absurd (false≢true h)
has_listed (q ∷ ps) p h = ⊎_elim (λ e. inl (same_point-same p q e)) (λ later. inr (has_listed ps p later)) (either (same_point p q) (has_point ps p) h)

pub none_has : (ps : List Point) → ((p : Point) → has_point ps p ≡ true → ⊥) → ps ≡ []
none_has [] never = refl
none_has (p ∷ ps) never = absurd (never p (or_left (same_point p p) (has_point ps p) (same_point-itself p)))

-- a point with an instruction
pub instr_point : (f : Function) (p : Point) (i : Instr) → instr_at f p ≡ Some i → IsPointOf f p
instr_point f p i e = by (slice_get f.blocks p.block) refl e
  where
    by : (o : Option Block) → slice_get f.blocks p.block ≡ o → instr_in o p.at ≡ Some i → IsPointOf f p
    by None is h = absurd (no_some i h)
    by (Some b) is h = let lt = slice_get_within b.instrs p.at i h in record { block = b; is_block = is; within = omega (arith, lt) }

-- a bit by a test
pub bit_test : (b : Bool) (w v c : ℕ) → b ≡ (bit_at w c == 1) → w ≡ v → (b ≡ true → HasBit v c) × (HasBit v c → b ≡ true)
bit_test b w v c is same = (
  λ e. subst (λ (x : ℕ). HasBit x c) same (eqb-true (bit_at w c) 1 (sym is ∙ e)),
  λ h. is ∙ eq-eqb (bit_at w c) 1 (subst (λ (x : ℕ). HasBit x c) (sym same) h),
)

pub no_both : {A : Type 0} (b : Bool) → b ≡ true → b ≡ false → A
no_both b e f = absurd (false≢true (sym f ∙ e))

-- where a chunk ends
pub chunk_ends : (a count end at : ℕ) → end ≤ count → end ≤ a + 64 → (end < a + 64 → end ≡ count) → at ≡ end → at ≡ min (a + 64) count
chunk_ends a count end at within most whole is = ⊎_elim
    (λ less. let same = whole less in omega (arith, same, less, is))
    (λ more. omega (arith, within, most, more, is))
    (cases_lt end (a + 64))
