-- Paths that avoid two points, by the blocks over which they lead.
use Rattle.std.proofs.Common.{◌≡◌, ◌⊎◌, inl, inr, ⊎_elim, ℕ, zero, suc, ◌+◌, ◌-◌, ◌<◌, ◌≤◌, Bool, true, false, List, [], ◌∷◌, length, Option, Some, None, refl, sym, ap, ◌∙◌, subst, arith, if◌then◌else◌, ◌==◌}
use Rattle.std.proofs.lemmas.Bool.{cases_lt, le-ltb, lt-ltb, ltb-true}
use Rattle.std.specs.Prelude.{map, nat_lt, slice_get, unwrap_or}
use Rattle.pass_frames_proof.specs.flow_solver.Paths.{IsListed}
use Rattle.pass_frames_proof.proofs.ir_laws.facts.Truth.{either as either_number, equal_numbers, itself}
use Rattle.pass_frames_proof.proofs.ir_laws.paths.alike_slots.Strands.{leads_at}
use Rattle.pass_frames_proof.proofs.ir_laws.paths.expanded.Strands.{leads_on}
use Rattle.pass_frames_proof.proofs.ir_laws.paths.threads.Edges.{one_there, only_one}
use Rattle.pass_frames_proof.specs.ir_model.Names.{position_of}
use Rattle.pass_frames_proof.specs.ir_model.declared.module.Block.{Block}
use Rattle.pass_frames_proof.specs.ir_model.declared.module.Function.{Function}
use Rattle.pass_frames_proof.proofs.ir_paths.Search.{either, or_left, or_right, same_point-itself, same_point-same}
use Rattle.pass_frames_proof.specs.ir_paths.Paths.{IsPath, Leads, entry_point, has_point, nexts, nexts_in, same_point, targets}
use Rattle.pass_frames_proof.specs.ir_paths.declared.point.Point.{Point}
use Rattle.pass_frames_proof.specs.Passes.{block_at, no_block}

abbrev pub pt : ℕ → ℕ → Point
pt k n = record { block = k; at = n }

abbrev pub len : Function → ℕ → ℕ
len f k = length (block_at f k).instrs

-- an edge leads from a block to another one
pub record HasEdge (f : Function) (i j : ℕ) : Type 0 where
  pub got : slice_get f.blocks i ≡ Some (block_at f i)
  pub label : ℕ
  pub listed : IsListed label (targets (block_at f i).term)
  pub to : position_of f label ≡ j

-- edges lead over blocks of which none is one of two
abbrev pub AreEdges : Function → (a b : ℕ) → ℕ → List ℕ → ℕ → Type 0
AreEdges f a b i [] j = HasEdge f i j
AreEdges f a b i (m ∷ ms) j = HasEdge f i m × (((m ≡ a → ⊥) × (m ≡ b → ⊥)) × AreEdges f a b m ms j)

pub record IsChain (f : Function) (a b i j : ℕ) : Type 0 where
  pub between : List ℕ
  pub edges : AreEdges f a b i between j

pub chain_join : (f : Function) (a b i m j : ℕ) → IsChain f a b i m → (m ≡ a → ⊥) → (m ≡ b → ⊥) → IsChain f a b m j
    → IsChain f a b i j
chain_join f a b i m j c na nb d = record { between = joined c.between; edges = along i c.between c.edges }
  where
    joined : List ℕ → List ℕ
    joined [] = m ∷ d.between
    joined (n ∷ ns) = n ∷ joined ns

    along : (i : ℕ) (ms : List ℕ) → AreEdges f a b i ms m → AreEdges f a b i (joined ms) j
    along i [] e = (e, ((na, nb), d.edges))
    along i (n ∷ ns) e = (e.0, (e.1.0, along n ns e.1.1))

-- ---- an edge between points

label_in : (f : Function) (q : Point) (ls : List ℕ) → has_point (map (entry_point f) ls) q ≡ true
    → (label : ℕ) × IsListed label ls × (q ≡ entry_point f label)
label_in f q [] h = absurd (cc)
label_in f q (l ∷ ls) h =
    ⊎_elim (λ e. (l, inl refl, same_point-same q (entry_point f l) e))
    (λ e. let z = label_in f q ls e in (z.0, inr z.1, z.2))
    (either (same_point q (entry_point f l)) (has_point (map (entry_point f) ls) q) h)

has_label : (f : Function) (label : ℕ) (ls : List ℕ) → IsListed label ls
    → has_point (map (entry_point f) ls) (entry_point f label) ≡ true
has_label f label [] l = absurd l
has_label f label (k ∷ ls) (inl e) =
    or_left (same_point (entry_point f label) (entry_point f k))
    (has_point (map (entry_point f) ls) (entry_point f label))
    (ap (λ (n : ℕ). same_point (entry_point f label) (entry_point f n)) (sym e)
    ∙ same_point-itself (entry_point f label))
has_label f label (k ∷ ls) (inr l) =
    or_right (same_point (entry_point f label) (entry_point f k))
    (has_point (map (entry_point f) ls) (entry_point f label)) (has_label f label ls l)

-- to the next one of its block, or to the first one of a block of one of its labels
pub data IsStep (f : Function) (p q : Point) : Type 0 where
  Inside : p.at < len f p.block → q ≡ pt p.block (p.at + 1) → IsStep f p q
  Across : p.at ≡ len f p.block → HasEdge f p.block q.block → q.at ≡ 0 → IsStep f p q

pub step_of : (f : Function) (p q : Point) → has_point (nexts f p) q ≡ true → IsStep f p q
step_of f p q h = on (slice_get f.blocks p.block) refl h
  where
    on : (o : Option Block) → slice_get f.blocks p.block ≡ o → has_point (nexts_in f p o) q ≡ true → IsStep f p q
    on None d h = absurd (cc)
    on (Some b) d h = by (nat_lt p.at (length b.instrs)) (p.at == length b.instrs) refl refl h
      where
        same : block_at f p.block ≡ b
        same = ap (λ (o : Option Block). unwrap_or o no_block) d

        by : (c e : Bool) → nat_lt p.at (length b.instrs) ≡ c → (p.at == length b.instrs) ≡ e
            → has_point (if c then pt p.block (p.at + 1) ∷ []
            else if e then map (entry_point f) (targets b.term) else []) q ≡ true → IsStep f p q
        by true e lt eq h = Inside
            (subst (λ (c : Block). p.at < length c.instrs) (sym same) (ltb-true p.at (length b.instrs) lt))
            (only_one (pt p.block (p.at + 1)) q h)
        by false true lt eq h =
            let z = label_in f q (targets b.term) h in
            Across (equal_numbers p.at (length b.instrs) eq ∙ ap (λ (c : Block). length c.instrs) (sym same))
            (record {
              got = d ∙ ap Some (sym same);
              label = z.0;
              listed = subst (λ (c : Block). IsListed z.0 (targets c.term)) (sym same) z.1;
              to = ap (λ (u : Point). u.block) (sym z.2);
            }) (ap (λ (u : Point). u.at) z.2)
        by false false lt eq h = absurd (cc)

module _ (f : Function) (k : ℕ) (got : slice_get f.blocks k ≡ Some (block_at f k)) where
  nexts_are : (i : ℕ) → nexts f (pt k i) ≡ (if nat_lt i (len f k) then pt k (i + 1) ∷ []
      else if i == len f k then map (entry_point f) (targets (block_at f k).term) else [])
  nexts_are i = ap (nexts_in f (pt k i)) got

  pub inside : (i : ℕ) → i < len f k → has_point (nexts f (pt k i)) (pt k (i + 1)) ≡ true
  inside i lt =
      ap (λ (qs : List Point). has_point qs (pt k (i + 1))) (nexts_are i
      ∙ ap (λ (s : Bool). if s then pt k (i + 1) ∷ []
      else if i == len f k then map (entry_point f) (targets (block_at f k).term) else [])
      (lt-ltb i (len f k) lt))
      ∙ one_there (pt k (i + 1))

  pub across : (j : ℕ) → HasEdge f k j → has_point (nexts f (pt k (len f k))) (pt j 0) ≡ true
  across j e =
      ap (λ (qs : List Point). has_point qs (pt j 0)) (nexts_are (len f k)
      ∙ ap (λ (s : Bool). if s then pt k (len f k + 1) ∷ []
      else if len f k == len f k then map (entry_point f) (targets (block_at f k).term) else [])
      (le-ltb (len f k) (len f k) (omega arith))
      ∙ ap (λ (s : Bool). if s then map (entry_point f) (targets (block_at f k).term) else []) (itself (len f k)))
      ∙ ap (λ (n : ℕ). has_point (map (entry_point f) (targets (block_at f k).term)) (pt n 0)) (sym e.to)
      ∙ has_label f e.label (targets (block_at f k).term) e.listed

-- ---- two points that are avoided

module _ (f : Function) (a na b nb : ℕ) (la : na ≤ len f a) (lb : nb ≤ len f b) where
  abbrev av : List Point
  av = pt a na ∷ pt b nb ∷ []

  -- a point is neither
  abbrev pub IsOff : ℕ → ℕ → Type 0
  IsOff k n = (k ≡ a → n ≡ na → ⊥) × (k ≡ b → n ≡ nb → ⊥)

  off_of : (k n : ℕ) → has_point av (pt k n) ≡ false → IsOff k n
  off_of k n h = (
    λ e d. let t = or_left (same_point (pt k n) (pt a na)) (has_point (pt b nb ∷ []) (pt k n))
        (here a na e d) in absurd (cc),
    λ e d. let t = or_right (same_point (pt k n) (pt a na)) (has_point (pt b nb ∷ []) (pt k n))
        (or_left (same_point (pt k n) (pt b nb)) false (here b nb e d)) in absurd (cc),
  )
    where
      here : (c nc : ℕ) → k ≡ c → n ≡ nc → same_point (pt k n) (pt c nc) ≡ true
      here c nc e d = (λ i. same_point (pt k n) (pt (sym e i) (sym d i))) ∙ same_point-itself (pt k n)

  to_off : (k n : ℕ) → IsOff k n → has_point av (pt k n) ≡ false
  to_off k n h = on (has_point av (pt k n)) refl
    where
      last : (same_point (pt k n) (pt b nb) ≡ true) ⊎ (false ≡ true) → ⊥
      last (inl e) = let z = same_point-same (pt k n) (pt b nb) e in
          h.1 (ap (λ (u : Point). u.block) z) (ap (λ (u : Point). u.at) z)
      last (inr e) = cc

      first : (same_point (pt k n) (pt a na) ≡ true) ⊎ (has_point (pt b nb ∷ []) (pt k n) ≡ true) → ⊥
      first (inl e) = let z = same_point-same (pt k n) (pt a na) e in
          h.0 (ap (λ (u : Point). u.block) z) (ap (λ (u : Point). u.at) z)
      first (inr e) = last (either (same_point (pt k n) (pt b nb)) false e)

      on : (t : Bool) → has_point av (pt k n) ≡ t → t ≡ false
      on true e = absurd (first (either (same_point (pt k n) (pt a na)) (has_point (pt b nb ∷ []) (pt k n)) e))
      on false e = refl

  -- ---- what a path is

  pub data IsWay (i m j n : ℕ) : Type 0 where
    Straight : i ≡ j → m < n → n ≤ len f j → ((l : ℕ) → m < l → l < n → IsOff i l) → IsWay i m j n
    Crossing : ((l : ℕ) → m < l → l ≤ len f i → IsOff i l) → IsChain f a b i j
        → ((l : ℕ) → l < n → IsOff j l) → IsWay i m j n

  -- a block of which each point is neither
  free_of : (k : ℕ) → ((l : ℕ) → l ≤ len f k → IsOff k l) → (k ≡ a → ⊥) × (k ≡ b → ⊥)
  free_of k h = (
    λ e. (h na (subst (λ (u : ℕ). na ≤ len f u) (sym e) la)).0 e refl,
    λ e. (h nb (subst (λ (u : ℕ). nb ≤ len f u) (sym e) lb)).1 e refl,
  )

  is_more : (m l : ℕ) → m < l → (l ≡ m + 1 → ⊥) → m + 1 < l
  is_more m l low d = omega (arith, low, d)

  from_first : (k first n : ℕ) → first ≡ 0 → IsOff k first → ((l : ℕ) → first < l → l < n → IsOff k l) → (l : ℕ)
      → l < n → IsOff k l
  from_first k first n z off more zero low = subst (IsOff k) z off
  from_first k first n z off more (suc l) low = more (suc l) (omega (arith, z)) low

  all_from : (k first : ℕ) → first ≡ 0 → IsOff k first → ((l : ℕ) → first < l → l ≤ len f k → IsOff k l) → (l : ℕ)
      → l ≤ len f k → IsOff k l
  all_from k first z off more zero low = subst (IsOff k) z off
  all_from k first z off more (suc l) low = more (suc l) (omega (arith, z)) low

  pub way_of : (between : List Point) (i m j n : ℕ) → IsPath f av (pt i m) between (pt j n) → IsWay i m j n
  way_of [] i m j n h = on (step_of f (pt i m) (pt j n) h)
    where
      on : IsStep f (pt i m) (pt j n) → IsWay i m j n
      on (Inside lt e) =
          let same : n ≡ m + 1 = ap (λ (u : Point). u.at) e in
          let block : j ≡ i = ap (λ (u : Point). u.block) e in
          Straight (sym block) (omega (arith, same))
          (subst (λ (u : ℕ). n ≤ len f u) (sym block) (omega (arith, same, lt)))
          (λ l up low. absurd (omega (arith, same, up, low)))
      on (Across at e z) =
          let first : n ≡ 0 = z in
          Crossing (λ l up low. absurd (omega (arith, at, up, low))) (record { between = []; edges = e })
          (λ l low. absurd (omega (arith, first, low)))
  way_of (v ∷ between) i m j n h =
      on (step_of f (pt i m) v h.0) (off_of v.block v.at h.1) (way_of between v.block v.at j n h.2)
    where
      on : IsStep f (pt i m) v → IsOff v.block v.at → IsWay v.block v.at j n → IsWay i m j n
      on (Inside lt e) off (Straight same up most more) =
          let at : v.at ≡ m + 1 = ap (λ (u : Point). u.at) e in
          let block : v.block ≡ i = ap (λ (u : Point). u.block) e in
          Straight (sym block ∙ same) (omega (arith, at, up)) most
          (λ l low high. ⊎_elim
          (λ (d : l ≡ m + 1). subst (λ (u : ℕ). IsOff u l) block
          (subst (IsOff v.block) (at ∙ sym d) off))
          (λ (d : l ≡ m + 1 → ⊥). subst (λ (u : ℕ). IsOff u l) block (more l (let q = is_more m l low d in
          omega (arith, at, q)) high)) (either_number l (m + 1)))
      on (Inside lt e) off (Crossing rest chain to) =
          let at : v.at ≡ m + 1 = ap (λ (u : Point). u.at) e in
          let block : v.block ≡ i = ap (λ (u : Point). u.block) e in
          Crossing
          (λ l low high. ⊎_elim
          (λ (d : l ≡ m + 1). subst (λ (u : ℕ). IsOff u l) block
          (subst (IsOff v.block) (at ∙ sym d) off))
          (λ (d : l ≡ m + 1 → ⊥). subst (λ (u : ℕ). IsOff u l) block (rest l (let q = is_more m l low d in
          omega (arith, at, q)) (subst (λ (u : ℕ). l ≤ len f u) (sym block) high)))
          (either_number l (m + 1)))
          (subst (λ (u : ℕ). IsChain f a b u j) block chain) to
      on (Across at e z) off (Straight same up most more) =
          Crossing (λ l low high. absurd (omega (arith, at, low, high)))
          (record { between = []; edges = subst (HasEdge f i) same e })
          (λ l low. subst (λ (u : ℕ). IsOff u l) same (from_first v.block v.at n z off more l low))
      on (Across at e z) off (Crossing rest chain to) =
          Crossing (λ l low high. absurd (omega (arith, at, low, high)))
          (record {
            between = v.block ∷ chain.between;
            edges = (e, (free_of v.block (λ l high. all_from v.block v.at z off rest l high), chain.edges));
          }) to

  -- ---- and back

  module _ (k : ℕ) (got : slice_get f.blocks k ≡ Some (block_at f k)) where
    run : (d i : ℕ) → i + suc d ≤ len f k → ((l : ℕ) → i < l → l < i + suc d → IsOff k l)
        → Leads f av (pt k i) (pt k (i + suc d))
    run zero i le off =
        let same : i + 1 ≡ i + suc zero = omega arith in
        subst (λ (n : ℕ). Leads f av (pt k i) (pt k n)) same
        (leads_at f av (pt k i) (pt k (i + 1)) (inside f k got i (omega (arith, le))))
    run (suc d) i le off =
        let same : (i + 1) + suc d ≡ i + suc (suc d) = omega arith in
        subst (λ (n : ℕ). Leads f av (pt k i) (pt k n)) same
        (leads_on f av (pt k i) (pt k (i + 1)) (pt k ((i + 1) + suc d))
        (inside f k got i (omega (arith, le))) (to_off k (i + 1) (off (i + 1) (omega arith) (omega arith)))
        (run d (i + 1) (omega (arith, le)) (λ l low high. off l (omega (arith, low)) (omega (arith, high, same)))))

    pub straight : (i j : ℕ) → i < j → j ≤ len f k → ((l : ℕ) → i < l → l < j → IsOff k l)
        → Leads f av (pt k i) (pt k j)
    straight i j lt le off =
        let same : i + suc (j - suc i) ≡ j = omega (arith, lt) in
        subst (λ (n : ℕ). Leads f av (pt k i) (pt k n)) same
        (run (j - suc i) i (omega (arith, le, same)) (λ l low high. off l low (omega (arith, high, same))))

  leads_join : (p v q : Point) → Leads f av p v → has_point av v ≡ false → Leads f av v q → Leads f av p q
  leads_join p v q l off m = along l.between p l.is_path
    where
      along : (between : List Point) (p : Point) → IsPath f av p between v → Leads f av p q
      along [] p h = leads_on f av p v q h off m
      along (u ∷ us) p h = leads_on f av p u q h.0 h.1 (along us u h.2)

  -- from the first point of a block, which isn't looked at
  from_start : (k n : ℕ) → slice_get f.blocks k ≡ Some (block_at f k) → n ≤ len f k → ((l : ℕ) → l < n → IsOff k l)
      → (p : Point) → has_point (nexts f p) (pt k 0) ≡ true → Leads f av p (pt k n)
  from_start k zero got le off p edge = leads_at f av p (pt k 0) edge
  from_start k (suc n) got le off p edge =
      leads_on f av p (pt k 0) (pt k (suc n)) edge (to_off k 0 (off 0 (omega arith)))
      (straight k got 0 (suc n) (omega arith) le (λ l low high. off l high))

  all_off : (k : ℕ) → (k ≡ a → ⊥) × (k ≡ b → ⊥) → (l : ℕ) → IsOff k l
  all_off k free l = ((λ e d. free.0 e), (λ e d. free.1 e))

  chained : (between : List ℕ) (i j n : ℕ) → AreEdges f a b i between j
      → slice_get f.blocks j ≡ Some (block_at f j) → n ≤ len f j → ((l : ℕ) → l < n → IsOff j l)
      → Leads f av (pt i (len f i)) (pt j n)
  chained [] i j n e got le off = from_start j n got le off (pt i (len f i)) (across f i e.got j e)
  chained (m ∷ ms) i j n e got le off =
      leads_join (pt i (len f i)) (pt m (len f m)) (pt j n)
      (from_start m (len f m) (next_got ms m e.1.1) (omega arith) (λ l low. all_off m e.1.0 l) (pt i (len f i))
      (across f i e.0.got m e.0))
      (to_off m (len f m) (all_off m e.1.0 (len f m))) (chained ms m j n e.1.1 got le off)
    where
      next_got : (ms : List ℕ) (m : ℕ) → AreEdges f a b m ms j → slice_get f.blocks m ≡ Some (block_at f m)
      next_got [] m h = h.got
      next_got (n ∷ ns) m h = h.0.got

  pub leads_of : (i m j n : ℕ) → slice_get f.blocks i ≡ Some (block_at f i)
      → slice_get f.blocks j ≡ Some (block_at f j) → m ≤ len f i → n ≤ len f j → IsWay i m j n
      → Leads f av (pt i m) (pt j n)
  leads_of i m j n here there le most (Straight same lt high off) =
      subst (λ (u : ℕ). Leads f av (pt i m) (pt u n)) same
      (straight i here m n lt (subst (λ (u : ℕ). n ≤ len f u) (sym same) most) off)
  leads_of i m j n here there le most (Crossing rest chain to) = on (cases_lt m (len f i))
    where
      last : Leads f av (pt i (len f i)) (pt j n)
      last = chained chain.between i j n chain.edges there most to

      on : (m < len f i) ⊎ (len f i ≤ m) → Leads f av (pt i m) (pt j n)
      on (inl lt) =
          leads_join (pt i m) (pt i (len f i)) (pt j n)
          (straight i here m (len f i) lt (omega arith) (λ l low high. rest l low (omega (arith, high))))
          (to_off i (len f i) (rest (len f i) lt (omega arith))) last
      on (inr ge) =
          let same : len f i ≡ m = omega (arith, ge, le) in
          subst (λ (u : ℕ). Leads f av (pt i u) (pt j n)) same last
