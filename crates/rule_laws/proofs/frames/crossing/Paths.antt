-- Paths of points and of blocks, and definitions on them.
use Rattle.std.proofs.Common.{◌≡◌, ◌⊎◌, inl, inr, ⊎_elim, ℕ, zero, suc, ◌+◌, Bool, true, false, List, [], ◌∷◌, ◌++◌, length, refl, sym, ap, ◌∙◌, subst, arith}
use Rattle.std.specs.Prelude.{Option, Some, None, map, option_to_list, slice_get, if◌then◌else◌}
use Rattle.flow_blocks.specs.Edges.{block_edges, edges_of_blocks, edges_out}
use Rattle.flow_blocks.specs.Reach.{Edge, IsReached, Start}
use Rattle.ir_laws.proofs.paths.crossing.Spots.{Spot, listed_or, spot_first, spot_instr, spot_next, spot_term}
use Rattle.rule_laws.proofs.rules.counted.Members.{made_either}
use Rattle.rule_uses.specs.Undefined.{Entry, Next as NextBlock, ReachesWithout}
use Rattle.rule_uses.specs.Uses.{block_values, phi_values, values_at, values_in}
use Rattle.ir_laws.proofs.paths.source_rules.Locals.{listed_either}
use Rattle.rule_laws.proofs.rules.source_rules.Locals.{made_by}
use Rattle.ir_laws.proofs.facts.Lists.{row_of}
use Rattle.ir_laws.specs.flow_solver.Paths.{IsListed}
use Rattle.ir_parts.specs.Contents.{result_of}
use Rattle.ir_laws.specs.ir_model.Names.{position_of}
use Rattle.ir_laws.specs.ir_model.declared.instr.Instr.{Instr}
use Rattle.ir_laws.specs.ir_model.declared.module.Block.{Block}
use Rattle.ir_laws.specs.ir_model.declared.module.Function.{Function}
use Rattle.ir_laws.specs.ir_paths.Paths.{targets}
use Rattle.ir_laws.specs.ir_paths.Windows.{points_from, points_in, points_where}
use Rattle.ir_laws.specs.ir_paths.declared.point.Point.{Point}
use Rattle.frame_contents.specs.frame_crossing.Paths.{Along, BranchesTo, ByInstr, ByParam, ByPhi, IsDefinedBefore, LeadsTo, Over, There, phis_in}

-- ---- points that pass a test

abbrev point : ℕ → ℕ → Point
point block at = record { block = block; at = at }

pub record FoundAt (t : Instr → Bool) (bs : List Block) (from : ℕ) (s : Point) : Type 0 where
  pub position : ℕ
  pub block : Block
  pub got : slice_get bs position ≡ Some block
  pub is_block : s.block ≡ from + position
  pub instr : Instr
  pub there : slice_get block.instrs s.at ≡ Some instr
  pub passes : t instr ≡ true

from_listed : (t : Instr → Bool) (block at : ℕ) (is : List Instr) (s : Point) → IsListed s (points_from t block at is) → (s.block ≡ block) × ((j : ℕ) × ((s.at ≡ at + j) × ((i : Instr) × ((slice_get is j ≡ Some i) × (t i ≡ true)))))
from_listed t block at [] s l = absurd l
from_listed t block at (i ∷ is) s l = on (t i) refl l (from_listed t block (suc at) is s)
  where
    Found : List Instr → ℕ → Type 0
    Found xs n = (s.block ≡ block) × ((j : ℕ) × ((s.at ≡ n + j) × ((x : Instr) × ((slice_get xs j ≡ Some x) × (t x ≡ true)))))

    later : (s.block ≡ block) × ((j : ℕ) × ((s.at ≡ suc at + j) × ((x : Instr) × ((slice_get is j ≡ Some x) × (t x ≡ true))))) → (s.block ≡ block) × ((j : ℕ) × ((s.at ≡ at + j) × ((x : Instr) × ((slice_get (i ∷ is) j ≡ Some x) × (t x ≡ true)))))
    later r = let e : s.at ≡ suc at + r.1.0 = r.1.1.0 in (r.0, (suc r.1.0, (omega (arith, e), r.1.1.1)))

    on : (b : Bool) → t i ≡ b → IsListed s (if b then point block at ∷ points_from t block (suc at) is else points_from t block (suc at) is) → (IsListed s (points_from t block (suc at) is) → (s.block ≡ block) × ((j : ℕ) × ((s.at ≡ suc at + j) × ((x : Instr) × ((slice_get is j ≡ Some x) × (t x ≡ true)))))) → (s.block ≡ block) × ((j : ℕ) × ((s.at ≡ at + j) × ((x : Instr) × ((slice_get (i ∷ is) j ≡ Some x) × (t x ≡ true)))))
    on true e (inl same) rest = let first : at ≡ at + 0 = omega arith in (ap (λ (p : Point). p.block) same, (0, (ap (λ (p : Point). p.at) same ∙ first, (i, (refl, e)))))
    on true e (inr r) rest = later (rest r)
    on false e r rest = later (rest r)

in_listed : (t : Instr → Bool) (from : ℕ) (bs : List Block) (s : Point) → IsListed s (points_in t from bs) → FoundAt t bs from s
in_listed t from [] s l = absurd l
in_listed t from (b ∷ bs) s l = ⊎_elim here (λ r. later (in_listed t (suc from) bs s r)) (listed_either s (points_from t from 0 b.instrs) (points_in t (suc from) bs) l)
  where
    here : IsListed s (points_from t from 0 b.instrs) → FoundAt t (b ∷ bs) from s
    here a =
        let x = from_listed t from 0 b.instrs s a in
        let first : from ≡ from + 0 = omega arith in
        let at : s.at ≡ 0 + x.1.0 = x.1.1.0 in
        let same : s.at ≡ x.1.0 = omega (arith, at) in
        record { position = 0; block = b; got = refl; is_block = x.0 ∙ first; instr = x.1.1.1.0; there = ap (slice_get b.instrs) same ∙ x.1.1.1.1.0; passes = x.1.1.1.1.1 }

    later : FoundAt t bs (suc from) s → FoundAt t (b ∷ bs) from s
    later x = let e : s.block ≡ suc from + x.position = x.is_block in record { position = suc x.position; block = x.block; got = x.got; is_block = omega (arith, e); instr = x.instr; there = x.there; passes = x.passes }

pub point_found : (t : Instr → Bool) (f : Function) (s : Point) → IsListed s (points_where t f) → FoundAt t f.blocks 0 s
point_found t f s l = in_listed t 0 f.blocks s l

-- and the other way round
has_from : (t : Instr → Bool) (block at : ℕ) (is : List Instr) (j : ℕ) (i : Instr) → slice_get is j ≡ Some i → t i ≡ true → IsListed (point block (at + j)) (points_from t block at is)
has_from t block at [] j i e h = absurd (cc)
has_from t block at (x ∷ is) zero i e h =
    let one : x ≡ i = cc in
    let first : at + 0 ≡ at = omega arith in
    subst (λ (b : Bool). IsListed (point block (at + 0)) (if b then point block at ∷ points_from t block (suc at) is else points_from t block (suc at) is)) (sym (ap t one ∙ h)) (inl (λ k. point block (first k)))
has_from t block at (x ∷ is) (suc j) i e h =
    let next : suc at + j ≡ at + suc j = omega arith in
    on (t x) (subst (λ (n : ℕ). IsListed (point block n) (points_from t block (suc at) is)) next (has_from t block (suc at) is j i e h))
  where
    on : (b : Bool) → IsListed (point block (at + suc j)) (points_from t block (suc at) is) → IsListed (point block (at + suc j)) (if b then point block at ∷ points_from t block (suc at) is else points_from t block (suc at) is)
    on true l = inr l
    on false l = l

has_in : (t : Instr → Bool) (from : ℕ) (bs : List Block) (q : ℕ) (b : Block) (j : ℕ) (i : Instr) → slice_get bs q ≡ Some b → slice_get b.instrs j ≡ Some i → t i ≡ true → IsListed (point (from + q) j) (points_in t from bs)
has_in t from [] q b j i e d h = absurd (cc)
has_in t from (c ∷ bs) zero b j i e d h =
    let one : c ≡ b = cc in
    let first : from ≡ from + 0 = omega arith in
    let zero_more : 0 + j ≡ j = omega arith in
    joined_left (point (from + 0) j) (points_from t from 0 c.instrs) (points_in t (suc from) bs)
    (subst (λ (n : ℕ). IsListed (point n j) (points_from t from 0 c.instrs)) first (subst (λ (n : ℕ). IsListed (point from n) (points_from t from 0 c.instrs)) zero_more (has_from t from 0 c.instrs j i (ap (λ (x : Block). slice_get x.instrs j) one ∙ d) h)))
  where
    joined_left : (x : Point) (xs ys : List Point) → IsListed x xs → IsListed x (xs ++ ys)
    joined_left x [] ys l = absurd l
    joined_left x (y ∷ xs) ys (inl e) = inl e
    joined_left x (y ∷ xs) ys (inr l) = inr (joined_left x xs ys l)
has_in t from (c ∷ bs) (suc q) b j i e d h =
    let next : suc from + q ≡ from + suc q = omega arith in
    joined_right (point (from + suc q) j) (points_from t from 0 c.instrs) (points_in t (suc from) bs) (subst (λ (n : ℕ). IsListed (point n j) (points_in t (suc from) bs)) next (has_in t (suc from) bs q b j i e d h))
  where
    joined_right : (x : Point) (xs ys : List Point) → IsListed x ys → IsListed x (xs ++ ys)
    joined_right x [] ys l = l
    joined_right x (y ∷ xs) ys l = inr (joined_right x xs ys l)

pub point_there : (t : Instr → Bool) (f : Function) (q : ℕ) (b : Block) (j : ℕ) (i : Instr) → slice_get f.blocks q ≡ Some b → slice_get b.instrs j ≡ Some i → t i ≡ true → IsListed (point q j) (points_where t f)
point_there t f q b j i e d h = let zero_more : 0 + q ≡ q = omega arith in subst (λ (n : ℕ). IsListed (point n j) (points_where t f)) zero_more (has_in t 0 f.blocks q b j i e d h)

-- ---- paths of points

pub leads_on : (f : Function) (x n y k b a : ℕ) → LeadsTo f x n b a → LeadsTo f y k x n → LeadsTo f y k b a
leads_on f x n y k _ _ There rest = rest
leads_on f x n y k _ _ (Over block at i e more) rest = Over block at i e (leads_on f x n y k block (at + 1) more rest)
leads_on f x n y k _ _ (Along block at label e more) rest = Along block at label e (leads_on f x n y k (position_of f label) 0 more rest)

-- to the terminator of a block
pub record ToEnd (f : Function) (q at : ℕ) (b : Block) : Type 0 where
  pub last : ℕ
  pub path : LeadsTo f q last q at
  pub spot : Spot f q last b []

pub to_end : (f : Function) (q at : ℕ) (b : Block) (is : List Instr) → Spot f q at b is → ToEnd f q at b
to_end f q at b [] s = record { last = at; path = There; spot = s }
to_end f q at b (i ∷ is) s = let r = to_end f q (at + 1) b is (spot_next f q at b i is s) in record { last = r.last; path = Over q at i (spot_instr f q at b i is s) r.path; spot = r.spot }

-- through some instructions of a block
pub through : (f : Function) (q at : ℕ) (b : Block) (xs rest : List Instr) → Spot f q at b (xs ++ rest) → LeadsTo f q (at + length xs) q at
through f q at b [] rest s = let same : at ≡ at + 0 = omega arith in subst (λ (n : ℕ). LeadsTo f q n q at) same There
through f q at b (x ∷ xs) rest s =
    let same : at + 1 + length xs ≡ at + suc (length xs) = omega arith in
    Over q at x (spot_instr f q at b x (xs ++ rest) s) (subst (λ (n : ℕ). LeadsTo f q n q (at + 1)) same (through f q (at + 1) b xs rest (spot_next f q at b x (xs ++ rest) s)))

-- ---- edges of blocks

pub record EdgeFrom (f : Function) (bs : List Block) (first from to : ℕ) : Type 0 where
  pub position : ℕ
  pub is_from : from ≡ first + position
  pub block : Block
  pub got : slice_get bs position ≡ Some block
  pub label : ℕ
  pub leads : IsListed label (targets block.term)
  pub is_to : position_of f label ≡ to

edge_out : (f : Function) (at : ℕ) (ts : List ℕ) (x : ℕ × ℕ) → IsListed x (map (λ to. (at, to)) (map (position_of f) ts)) → (label : ℕ) × (IsListed label ts × ((x.0 ≡ at) × (position_of f label ≡ x.1)))
edge_out f at [] x l = absurd l
edge_out f at (t ∷ ts) x (inl e) = (t, (inl refl, (ap (λ (y : ℕ × ℕ). y.0) e, ap (λ (y : ℕ × ℕ). y.1) (sym e))))
edge_out f at (t ∷ ts) x (inr l) = let r = edge_out f at ts x l in (r.0, (inr r.1.0, r.1.1))

edges_from : (f : Function) (at : ℕ) (bs : List Block) (x : ℕ × ℕ) → IsListed x (edges_of_blocks f at bs) → EdgeFrom f bs at x.0 x.1
edges_from f at [] x l = absurd l
edges_from f at (b ∷ bs) x l =
    ⊎_elim
    (λ a. let r = edge_out f at (targets b.term) x a in let first : at ≡ at + 0 = omega arith in record { position = 0; is_from = r.1.1.0 ∙ first; block = b; got = refl; label = r.0; leads = r.1.0; is_to = r.1.1.1 })
    (λ c. let r = edges_from f (at + 1) bs x c in let e : x.0 ≡ at + 1 + r.position = r.is_from in record { position = suc r.position; is_from = omega (arith, e); block = r.block; got = r.got; label = r.label; leads = r.leads; is_to = r.is_to })
    (listed_either x (edges_out f at b) (edges_of_blocks f (at + 1) bs) l)

pub edge_from : (f : Function) (from to : ℕ) → IsListed {X = ℕ × ℕ} (from, to) (block_edges f) → EdgeFrom f f.blocks 0 from to
unfolding block_edges
edge_from f from to l = edges_from f 0 f.blocks (from, to) l

-- ---- definitions on paths

module _ (f : Function) (v : ℕ) where
  pub later_defined : (x n y k : ℕ) → IsDefinedBefore f v x n → LeadsTo f y k x n → IsDefinedBefore f v y k
  later_defined x n y k (ByParam l path) rest = ByParam l (leads_on f x n y k 0 0 path rest)
  later_defined x n y k (ByPhi b l path) rest = ByPhi b l (leads_on f x n y k b 0 path rest)
  later_defined x n y k (ByInstr b a i e r path) rest = ByInstr b a i e r (leads_on f x n y k b (a + 1) path rest)

  -- an instruction of these makes the value
  pub made_before : (q at : ℕ) (b : Block) (xs rest : List Instr) → Spot f q at b (xs ++ rest) → IsListed v (row_of made_by xs) → IsDefinedBefore f v q (at + length xs)
  made_before q at b [] rest s l = absurd l
  made_before q at b (x ∷ xs) rest s l =
      let next = spot_next f q at b x (xs ++ rest) s in
      let same : at + 1 + length xs ≡ at + suc (length xs) = omega arith in
      ⊎_elim
      (λ a. ByInstr q at x (spot_instr f q at b x (xs ++ rest) s) (some (result_of x) a) (subst (λ (n : ℕ). LeadsTo f q n q (at + 1)) same (through f q (at + 1) b xs rest next)))
      (λ r. subst (λ (n : ℕ). IsDefinedBefore f v q n) same (made_before q (at + 1) b xs rest next r))
      (listed_either v (made_by x) (row_of made_by xs) l)
    where
      some : (o : Option ℕ) → IsListed v (option_to_list o) → o ≡ Some v
      some None h = absurd h
      some (Some n) (inl e) = ap (λ (k : ℕ). Some k) (sym e)
      some (Some n) (inr h) = absurd h

  all_there : (xs : List Instr) → xs ++ [] ≡ xs
  all_there [] = refl
  all_there (x ∷ xs) = ap (λ (l : List Instr). x ∷ l) (all_there xs)

  -- a value that a block makes is defined at its end
  made_at_end : (q : ℕ) (b : Block) → slice_get f.blocks q ≡ Some b → IsListed v (block_values b) → IsDefinedBefore f v q (length b.instrs)
  made_at_end q b got l =
      let spot : Spot f q 0 b (b.instrs ++ []) = subst (λ (xs : List Instr). Spot f q 0 b xs) (sym (all_there b.instrs)) (spot_first f q b got) in
      let zero_more : 0 + length b.instrs ≡ length b.instrs = omega arith in
      subst (λ (n : ℕ). IsDefinedBefore f v q n) zero_more
      (⊎_elim
      (λ a. ByPhi q (subst (λ (o : Option Block). IsListed v (phis_in o)) (sym got) a) (through f q 0 b b.instrs [] spot))
      (λ r. made_before q 0 b b.instrs [] spot r)
      (made_either b.instrs (phi_values b) v l))

  -- the edge behind the end
  end_edge : (q : ℕ) (b : Block) (label : ℕ) → slice_get f.blocks q ≡ Some b → IsListed label (targets b.term) → LeadsTo f (position_of f label) 0 q (length b.instrs)
  end_edge q b label got l =
      let spot : Spot f q (length b.instrs) b [] = record { got = got; ahead = b.instrs; is = sym (all_there b.instrs); long = refl } in
      Along q (length b.instrs) label (subst (BranchesTo label) (sym (spot_term f q (length b.instrs) b spot)) l) There

  through_block : (q : ℕ) (b : Block) → slice_get f.blocks q ≡ Some b → LeadsTo f q (length b.instrs) q 0
  through_block q b got =
      let spot : Spot f q 0 b (b.instrs ++ []) = subst (λ (xs : List Instr). Spot f q 0 b xs) (sym (all_there b.instrs)) (spot_first f q b got) in
      let zero_more : 0 + length b.instrs ≡ length b.instrs = omega arith in
      subst (λ (n : ℕ). LeadsTo f q n q 0) zero_more (through f q 0 b b.instrs [] spot)

  -- a path of blocks is one of points
  pub reached_leads : (q : ℕ) → IsReached f (0 ∷ []) [] q → LeadsTo f q 0 0 0
  reached_leads _ (Start q (inl e)) = subst (λ (n : ℕ). LeadsTo f n 0 0 0) (sym e) There
  reached_leads _ (Start q (inr l)) = absurd l
  reached_leads _ (Edge from to path edge avoided) =
      let x = edge_from f from to edge in
      let zero_more : from ≡ x.position = (let e : from ≡ 0 + x.position = x.is_from in omega (arith, e)) in
      let got : slice_get f.blocks from ≡ Some x.block = ap (slice_get f.blocks) zero_more ∙ x.got in
      leads_on f from 0 to 0 0 0 (reached_leads from path)
      (leads_on f from (length x.block.instrs) to 0 from 0 (through_block from x.block got) (subst (λ (n : ℕ). LeadsTo f n 0 from (length x.block.instrs)) x.is_to (end_edge from x.block x.label got x.leads)))

  -- on it the value is defined, or not
  pub defined_or_not : (q : ℕ) → IsReached f (0 ∷ []) [] q → IsDefinedBefore f v q 0 ⊎ ReachesWithout f v q
  defined_or_not _ (Start q (inl e)) = inr (subst (λ (n : ℕ). ReachesWithout f v n) (sym e) Entry)
  defined_or_not _ (Start q (inr l)) = absurd l
  defined_or_not _ (Edge from to path edge avoided) =
      let x = edge_from f from to edge in
      let zero_more : from ≡ x.position = (let e : from ≡ 0 + x.position = x.is_from in omega (arith, e)) in
      let got : slice_get f.blocks from ≡ Some x.block = ap (slice_get f.blocks) zero_more ∙ x.got in
      let leave : LeadsTo f to 0 from (length x.block.instrs) = subst (λ (n : ℕ). LeadsTo f n 0 from (length x.block.instrs)) x.is_to (end_edge from x.block x.label got x.leads) in
      ⊎_elim
      (λ d. inl (later_defined from 0 to 0 d (leads_on f from (length x.block.instrs) to 0 from 0 (through_block from x.block got) leave)))
      (λ w.
      ⊎_elim
      (λ l. inl (later_defined from (length x.block.instrs) to 0 (made_at_end from x.block got (subst (λ (o : Option Block). IsListed v (values_in o)) got l)) leave))
      (λ unmade. inr (NextBlock from to w unmade edge))
      (listed_or v (values_at f from)))
      (defined_or_not from path)
