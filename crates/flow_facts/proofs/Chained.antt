-- The addresses of a name are those that chains of getelementptrs lead to.
use Rattle.std.proofs.Common.{◌≡◌, ℕ, zero, suc, ◌+◌, ◌-◌, ◌≤◌, inl, inr, Bool, true, false, ◌||◌, List, [], ◌∷◌, ◌++◌, length, refl, ap, sym, ◌∙◌, subst, ⊎_elim, arith, length-append}
use Rattle.std.specs.Prelude.{flat_map, if◌then◌else◌, ◌==◌}
use Rattle.std.proofs.lemmas.Bool.{false≢true}
use Rattle.std.proofs.lemmas.List.Folds.{list_any-append}
use Rattle.ir_model.specs.declared.instr.Instr.{Instr}
use Rattle.ir_model.specs.declared.module.Block.{Block}
use Rattle.ir_model.specs.declared.module.Function.{Function}
use Rattle.ir_model.specs.declared.operand.Operand.{Operand}
use Rattle.flow_points.proofs.ir_paths.Search.{either, eq_from, eq_itself, or_left, or_right}
use Rattle.flow_points.specs.ir_paths.Slots.{addresses_of, addresses_within, geps_from, has_name, is_gep}
use Rattle.flow_points.specs.ir_paths.Windows.{points_from, points_in, points_where}
use Rattle.flow_solver.specs.Paths.{IsListed}
use Rattle.flow_facts.proofs.Addresses.{chained, chained-all, reached_by, stays}
use Rattle.flow_facts.specs.Chains.{bases_by, bases_in}

-- ---- the addresses are chains of pairs

geps-are : (t : ℕ → Bool) (is : List Instr) → geps_from t is ≡ reached_by t (bases_in is)
geps-are t [] = refl
geps-are t (Instr.Gep r inbounds ty (Operand.Local v) indices ∷ is) = ap (λ (l : List ℕ). (if t v then r ∷ [] else []) ++ l) (geps-are t is)
geps-are t (Instr.Gep r inbounds ty (Operand.Global n) indices ∷ is) = geps-are t is
geps-are t (Instr.Gep r inbounds ty (Operand.Number n) indices ∷ is) = geps-are t is
geps-are t (Instr.Gep r inbounds ty Operand.True indices ∷ is) = geps-are t is
geps-are t (Instr.Gep r inbounds ty Operand.False indices ∷ is) = geps-are t is
geps-are t (Instr.Gep r inbounds ty Operand.Null indices ∷ is) = geps-are t is
geps-are t (Instr.Gep r inbounds ty Operand.None indices ∷ is) = geps-are t is
geps-are t (Instr.Gep r inbounds ty Operand.Poison indices ∷ is) = geps-are t is
geps-are t (Instr.Alloca name ty align ∷ is) = geps-are t is
geps-are t (Instr.Binary r op flags ty left right ∷ is) = geps-are t is
geps-are t (Instr.Icmp r pred ty left right ∷ is) = geps-are t is
geps-are t (Instr.Select r c a b ∷ is) = geps-are t is
geps-are t (Instr.Cast r op nneg arg to ∷ is) = geps-are t is
geps-are t (Instr.Load r ty address align ∷ is) = geps-are t is
geps-are t (Instr.Store arg address align ∷ is) = geps-are t is
geps-are t (Instr.Call r must_tail ty callee args ∷ is) = geps-are t is

append-assoc : (xs ys zs : List ℕ) → (xs ++ ys) ++ zs ≡ xs ++ (ys ++ zs)
append-assoc [] ys zs = refl
append-assoc (x ∷ xs) ys zs = ap (λ (l : List ℕ). x ∷ l) (append-assoc xs ys zs)

reached-append : (t : ℕ → Bool) (gs hs : List (ℕ × ℕ)) → reached_by t (gs ++ hs) ≡ reached_by t gs ++ reached_by t hs
reached-append t [] hs = refl
reached-append t (g ∷ gs) hs =
    ap (λ (l : List ℕ). (if t g.1 then g.0 ∷ [] else []) ++ l) (reached-append t gs hs)
    ∙ sym (append-assoc (if t g.1 then g.0 ∷ [] else []) (reached_by t gs) (reached_by t hs))

all-geps-are : (t : ℕ → Bool) (bs : List Block) → flat_map (λ b. geps_from t b.instrs) bs ≡ reached_by t (bases_by bs)
all-geps-are t [] = refl
all-geps-are t (b ∷ bs) =
    ap (λ (l : List ℕ). l ++ flat_map (λ b. geps_from t b.instrs) bs) (geps-are t b.instrs)
    ∙ ap (λ (l : List ℕ). reached_by t (bases_in b.instrs) ++ l) (all-geps-are t bs)
    ∙ sym (reached-append t (bases_in b.instrs) (bases_by bs))

within-is : (n : ℕ) (f : Function) (a : ℕ) → addresses_within n f a ≡ chained n (bases_by f.blocks) a
within-is zero f a = refl
within-is (suc n) f a =
    ap (λ (l : List ℕ). a ∷ flat_map (λ b. geps_from (has_name l) b.instrs) f.blocks) (within-is n f a)
    ∙ ap (λ (l : List ℕ). a ∷ l) (all-geps-are (has_name (chained n (bases_by f.blocks) a)) f.blocks)

-- ---- chains are long enough

bases-bound : (block at : ℕ) (is : List Instr) → length (bases_in is) ≤ length (points_from is_gep block at is)
bases-bound block at [] = omega arith
bases-bound block at (Instr.Gep r inbounds ty (Operand.Local v) indices ∷ is) = let h = bases-bound block (suc at) is in omega (arith, h)
bases-bound block at (Instr.Gep r inbounds ty (Operand.Global n) indices ∷ is) = let h = bases-bound block (suc at) is in omega (arith, h)
bases-bound block at (Instr.Gep r inbounds ty (Operand.Number n) indices ∷ is) = let h = bases-bound block (suc at) is in omega (arith, h)
bases-bound block at (Instr.Gep r inbounds ty Operand.True indices ∷ is) = let h = bases-bound block (suc at) is in omega (arith, h)
bases-bound block at (Instr.Gep r inbounds ty Operand.False indices ∷ is) = let h = bases-bound block (suc at) is in omega (arith, h)
bases-bound block at (Instr.Gep r inbounds ty Operand.Null indices ∷ is) = let h = bases-bound block (suc at) is in omega (arith, h)
bases-bound block at (Instr.Gep r inbounds ty Operand.None indices ∷ is) = let h = bases-bound block (suc at) is in omega (arith, h)
bases-bound block at (Instr.Gep r inbounds ty Operand.Poison indices ∷ is) = let h = bases-bound block (suc at) is in omega (arith, h)
bases-bound block at (Instr.Alloca name ty align ∷ is) = bases-bound block (suc at) is
bases-bound block at (Instr.Binary r op flags ty left right ∷ is) = bases-bound block (suc at) is
bases-bound block at (Instr.Icmp r pred ty left right ∷ is) = bases-bound block (suc at) is
bases-bound block at (Instr.Select r c a b ∷ is) = bases-bound block (suc at) is
bases-bound block at (Instr.Cast r op nneg arg to ∷ is) = bases-bound block (suc at) is
bases-bound block at (Instr.Load r ty address align ∷ is) = bases-bound block (suc at) is
bases-bound block at (Instr.Store arg address align ∷ is) = bases-bound block (suc at) is
bases-bound block at (Instr.Call r must_tail ty callee args ∷ is) = bases-bound block (suc at) is

all-bases-bound : (block : ℕ) (bs : List Block) → length (bases_by bs) ≤ length (points_in is_gep block bs)
all-bases-bound block [] = omega arith
all-bases-bound block (b ∷ bs) =
    let here = bases-bound block 0 b.instrs in
    let later = all-bases-bound (suc block) bs in
    let l = length-append (bases_in b.instrs) (bases_by bs) in
    let r = length-append (points_from is_gep block 0 b.instrs) (points_in is_gep (suc block) bs) in
    omega (arith, here, later, l, r)

abbrev chain_of : Function → ℕ → List ℕ
chain_of f a = chained (length (points_where is_gep f)) (bases_by f.blocks) a

-- one more getelementptr gives no more addresses
one-more : (f : Function) (a : ℕ) → chain_of f a ≡ chained (suc (length (points_where is_gep f))) (bases_by f.blocks) a
one-more f a =
    let bound = all-bases-bound 0 f.blocks in
    let s : length (bases_by f.blocks) + (length (points_where is_gep f) - length (bases_by f.blocks)) ≡ length (points_where is_gep f) = omega (arith, bound) in
    subst (λ (n : ℕ). chained n (bases_by f.blocks) a ≡ chained (suc n) (bases_by f.blocks) a) s
    (stays (length (bases_by f.blocks)) (length (points_where is_gep f) - length (bases_by f.blocks)) (bases_by f.blocks) a (chained-all (bases_by f.blocks) a))

-- ---- names and lists

pub listed-name : (v : ℕ) (names : List ℕ) → IsListed v names → has_name names v ≡ true
listed-name v [] h = absurd h
listed-name v (x ∷ xs) h = ⊎_elim
    (λ e. or_left (x == v) (has_name xs v) (subst (λ y. (x == y) ≡ true) (sym e) (eq_itself x)))
    (λ later. or_right (x == v) (has_name xs v) (listed-name v xs later))
    h

pub name-listed : (v : ℕ) (names : List ℕ) → has_name names v ≡ true → IsListed v names
name-listed v [] h = absurd (false≢true h)
name-listed v (x ∷ xs) h = ⊎_elim
    (λ e. inl (sym (eq_from x v e)))
    (λ later. inr (name-listed v xs later))
    (either (x == v) (has_name xs v) h)

has-append : (xs ys : List ℕ) (v : ℕ) → has_name (xs ++ ys) v ≡ (has_name xs v || has_name ys v)
has-append xs ys v = list_any-append (λ u. u == v) xs ys

-- ---- what is reached by one getelementptr

pub record ComesFrom (t : ℕ → Bool) (gs : List (ℕ × ℕ)) (v : ℕ) : Type 0 where
  pub base : ℕ
  pub is_listed : IsListed (v, base) gs
  pub passes : t base ≡ true

one-reached : (b : Bool) (r v : ℕ) → has_name (if b then r ∷ [] else []) v ≡ true → (b ≡ true) × (v ≡ r)
one-reached true r v h = (refl, ⊎_elim (λ e. sym (eq_from r v e)) (λ none. absurd (false≢true none)) (either (r == v) false h))
one-reached false r v h = absurd (false≢true h)

pair-is : (v : ℕ) (g : ℕ × ℕ) → v ≡ g.0 → (v, g.1) ≡ g
pair-is v (r, b) e = ap (λ (y : ℕ). (y, b)) e

reached-from : (t : ℕ → Bool) (gs : List (ℕ × ℕ)) (v : ℕ) → has_name (reached_by t gs) v ≡ true → ComesFrom t gs v
reached-from t [] v h = absurd (false≢true h)
reached-from t (g ∷ gs) v h = ⊎_elim
    (λ here. let p = one-reached (t g.1) g.0 v here in record { base = g.1; is_listed = inl (pair-is v g p.1); passes = p.0 })
    (λ later. let c = reached-from t gs v later in record { base = c.base; is_listed = inr c.is_listed; passes = c.passes })
    (either (has_name (if t g.1 then g.0 ∷ [] else []) v) (has_name (reached_by t gs) v) (sym (has-append (if t g.1 then g.0 ∷ [] else []) (reached_by t gs) v) ∙ h))

reached-one : (b : Bool) (r : ℕ) → b ≡ true → has_name (if b then r ∷ [] else []) r ≡ true
reached-one true r e = or_left (r == r) false (eq_itself r)
reached-one false r e = absurd (false≢true e)

from-reached : (t : ℕ → Bool) (gs : List (ℕ × ℕ)) (r u : ℕ) → IsListed (r, u) gs → t u ≡ true → has_name (reached_by t gs) r ≡ true
from-reached t [] r u h passes = absurd h
from-reached t (g ∷ gs) r u h passes =
    has-append (if t g.1 then g.0 ∷ [] else []) (reached_by t gs) r
    ∙ ⊎_elim
    (λ e. or_left (has_name (if t g.1 then g.0 ∷ [] else []) r) (has_name (reached_by t gs) r)
    (subst (λ (x : ℕ × ℕ). has_name (if t x.1 then x.0 ∷ [] else []) r ≡ true) e (reached-one (t u) r passes)))
    (λ later. or_right (has_name (if t g.1 then g.0 ∷ [] else []) r) (has_name (reached_by t gs) r) (from-reached t gs r u later passes))
    h

-- ---- chains

-- getelementptrs lead from the first name to the second
pub data IsAddress (gs : List (ℕ × ℕ)) (a : ℕ) : ℕ → Type 0 where
  Own : IsAddress gs a a
  Next : (v r : ℕ) → IsListed (r, v) gs → IsAddress gs a v → IsAddress gs a r

chained-sound : (n : ℕ) (gs : List (ℕ × ℕ)) (a v : ℕ) → has_name (chained n gs a) v ≡ true → IsAddress gs a v
chained-sound zero gs a v h = ⊎_elim (λ e. subst (IsAddress gs a) (eq_from a v e) IsAddress.Own) (λ none. absurd (false≢true none)) (either (a == v) false h)
chained-sound (suc n) gs a v h = ⊎_elim
    (λ e. subst (IsAddress gs a) (eq_from a v e) IsAddress.Own)
    (λ later. let c = reached-from (has_name (chained n gs a)) gs v later in IsAddress.Next c.base v c.is_listed (chained-sound n gs a c.base c.passes))
    (either (a == v) (has_name (reached_by (has_name (chained n gs a)) gs) v) h)

chained-complete : (f : Function) (a v : ℕ) → IsAddress (bases_by f.blocks) a v → has_name (chain_of f a) v ≡ true
chained-complete f a _ IsAddress.Own =
    ap (λ (l : List ℕ). has_name l a) (one-more f a)
    ∙ or_left (a == a) (has_name (reached_by (has_name (chain_of f a)) (bases_by f.blocks)) a) (eq_itself a)
chained-complete f a _ (IsAddress.Next v r listed rest) =
    ap (λ (l : List ℕ). has_name l r) (one-more f a)
    ∙ or_right (a == r) (has_name (reached_by (has_name (chain_of f a)) (bases_by f.blocks)) r)
    (from-reached (has_name (chain_of f a)) (bases_by f.blocks) r v listed (chained-complete f a v rest))

-- the addresses of a name are those that getelementptrs lead to
pub address-sound : (f : Function) (a v : ℕ) → has_name (addresses_of f a) v ≡ true → IsAddress (bases_by f.blocks) a v
address-sound f a v h =
    chained-sound (length (points_where is_gep f)) (bases_by f.blocks) a v
    (ap (λ (l : List ℕ). has_name l v) (sym (within-is (length (points_where is_gep f)) f a)) ∙ h)

pub address-complete : (f : Function) (a v : ℕ) → IsAddress (bases_by f.blocks) a v → has_name (addresses_of f a) v ≡ true
address-complete f a v h = ap (λ (l : List ℕ). has_name l v) (within-is (length (points_where is_gep f)) f a) ∙ chained-complete f a v h

-- a getelementptr before the others
pub address-front : (gs : List (ℕ × ℕ)) (b r v : ℕ) → IsListed (r, b) gs → IsAddress gs r v → IsAddress gs b v
address-front gs b r _ listed IsAddress.Own = IsAddress.Next b r listed IsAddress.Own
address-front gs b r _ listed (IsAddress.Next u w last rest) = IsAddress.Next u w last (address-front gs b r u listed rest)
