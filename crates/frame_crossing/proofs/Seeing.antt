-- Values that are defined before a point, by paths of blocks and by the words that are solved for.
use Rattle.std.proofs.Common.{◌≡◌, ℕ, zero, suc, ◌+◌, ◌<◌, ◌⊎◌, Bool, List, [], ◌∷◌, ◌++◌, length, map, replicate, Some, None, Option, refl, sym, ap, ◌∙◌, subst, ⊎_elim, inl, inr, arith}
use Rattle.std.specs.Prelude.{slice_get}
use Rattle.std.proofs.lemmas.Bool.{cases_lt}
use Rattle.std.proofs.lemmas.List.{append-nil}
use Rattle.std.proofs.lemmas.Option.{slice_get_within}
use Rattle.flow_bits.specs.Bits.{HasBit}
use Rattle.flow_bits.specs.Reaching.{AnswersAt, Reaches}
use Rattle.flow_bits.specs.Reaching.Reaches.{Start, Edge}
use Rattle.rule_uses.proofs.flow_blocks.Bounds.{edge_bounded}
use Rattle.rule_uses.proofs.flow_blocks.Elements.{listed_map, map_listed}
use Rattle.rule_uses.proofs.flow_blocks.Reached.{word_within}
use Rattle.rule_uses.specs.flow_blocks.Edges.{block_edges}
use Rattle.rule_uses.specs.flow_blocks.Words.{word_at}
use Rattle.rule_uses.specs.Questions.{all_bits, block_word}
use Rattle.rule_uses.specs.Undefined.{params_of}
use Rattle.rule_uses.specs.Uses.{phi_values, values_at}
use Rattle.flow_solver.proofs.Lists.{listed_at, place_of}
use Rattle.flow_solver.specs.Paths.{IsListed}
use Rattle.ir_parts.specs.Contents.{result_of}
use Rattle.ir_model.specs.Names.{position_of}
use Rattle.ir_model.specs.declared.instr.Instr.{Instr}
use Rattle.ir_model.specs.declared.module.Block.{Block}
use Rattle.ir_model.specs.declared.module.Function.{Function}
use Rattle.run_step.specs.Step.{AtInstr, fetch, fetch_in, fetch_or}
use Rattle.frame_crossing.proofs.Bits.{IsOwn, all_bit, no_bit}
use Rattle.frame_crossing.proofs.Blocks.{HasTarget, IsMadeIn, at_instr, at_term, edge_is_out, length_further, made_before, made_in, made_split, one_further, phis_are, target_is_edge, values_are}
use Rattle.frame_crossing.proofs.Made.{made_told, params_told}
use Rattle.frame_crossing.specs.Paths.{BranchesTo, IsDefinedBefore, LeadsTo, phis_at}
use Rattle.frame_crossing.specs.Paths.IsDefinedBefore.{ByParam, ByPhi, ByInstr}
use Rattle.frame_crossing.specs.Paths.LeadsTo.{There, Over, Along}
use Rattle.frame_crossing.specs.Words.{made_starts, params_word}

-- A path leads to a block from a block that makes v, or v is a parameter and a path leads there from the entry.
pub data IsSeenIn (f : Function) (v : ℕ) : ℕ → Type 0 where
  Entry : IsListed v (params_of f) → IsSeenIn f v 0
  Made : (from to : ℕ) → IsListed v (values_at f from) → IsListed (from, to) (block_edges f) → IsSeenIn f v to
  Onward : (from to : ℕ) → IsSeenIn f v from → IsListed (from, to) (block_edges f) → IsSeenIn f v to

-- ---- paths of points

joined : (f : Function) (c d to at b a : ℕ) → LeadsTo f c d b a → LeadsTo f to at c d → LeadsTo f to at b a
joined f c d to at _ _ There l = l
joined f c d to at _ _ (Over b a i e k) l = Over b a i e (joined f c d to at b (a + 1) k l)
joined f c d to at _ _ (Along b a label br k) l = Along b a label br (joined f c d to at (position_of f label) 0 k l)

extended : (f : Function) (v b a c d : ℕ) → IsDefinedBefore f v b a → LeadsTo f c d b a → IsDefinedBefore f v c d
extended f v b a c d (ByParam h k) l = ByParam h (joined f b a c d 0 0 k l)
extended f v b a c d (ByPhi x h k) l = ByPhi x h (joined f b a c d x 0 k l)
extended f v b a c d (ByInstr x y i e r k) l = ByInstr x y i e r (joined f b a c d x (y + 1) k l)

module _ (f : Function) (b : ℕ) (block : Block) (is_block : slice_get f.blocks b ≡ Some block) where
  -- from behind some instructions to behind more of them
  inside : (front mid rest : List Instr) (at : ℕ) → block.instrs ≡ front ++ (mid ++ rest) → at ≡ length front + length mid → LeadsTo f b at b (length front)
  inside front [] rest at e is = subst (λ (n : ℕ). LeadsTo f b n b (length front)) (let same : length front ≡ at = omega (arith, is) in same) There
  inside front (i ∷ mid) rest at e is =
      let longer = length_further front i in
      Over b (length front) i (at_instr f b block is_block front i (mid ++ rest) e)
      (subst (LeadsTo f b at b) longer
      (inside (front ++ i ∷ []) mid rest at (one_further block.instrs front i (mid ++ rest) e) (let same : at ≡ length (front ++ i ∷ []) + length mid = omega (arith, is, longer) in same)))

  from_front : (front rest : List Instr) → block.instrs ≡ front ++ rest → LeadsTo f b (length front) b 0
  from_front front rest e = inside [] front rest (length front) e (omega arith)

  -- an instruction that gives v is behind these and before those
  made_defined : (v : ℕ) (front mid rest : List Instr) → block.instrs ≡ front ++ (mid ++ rest) → IsMadeIn v mid → (at : ℕ) → at ≡ length front + length mid → IsDefinedBefore f v b at
  made_defined v front [] rest e m at is = absurd m
  made_defined v front (i ∷ mid) rest e m at is =
      let longer = length_further front i in
      let next : block.instrs ≡ (front ++ i ∷ []) ++ (mid ++ rest) = one_further block.instrs front i (mid ++ rest) e in
      let further : at ≡ length (front ++ i ∷ []) + length mid = omega (arith, is, longer) in
      ⊎_elim
      (λ r. ByInstr b (length front) i (at_instr f b block is_block front i (mid ++ rest) e) r (subst (LeadsTo f b at b) longer (inside (front ++ i ∷ []) mid rest at next further)))
      (λ later. made_defined v (front ++ i ∷ []) mid rest next later at further)
      m

  whole : block.instrs ≡ block.instrs ++ []
  whole = sym (append-nil block.instrs)

  over_edge : (label to : ℕ) → IsListed label (Rattle.ir_paths.specs.Paths.targets block.term) → to ≡ position_of f label → LeadsTo f to 0 b (length block.instrs)
  over_edge label to h is = Along b (length block.instrs) label (subst (BranchesTo label) (sym (at_term f b block is_block)) h) (subst (λ (n : ℕ). LeadsTo f to 0 n 0) is There)

  values_defined : (v : ℕ) → IsListed v (values_at f b) → IsDefinedBefore f v b (length block.instrs)
  values_defined v h = ⊎_elim
      (λ phi. ByPhi b (subst (IsListed v) (sym (phis_are f b block is_block)) phi) (from_front block.instrs [] whole))
      (λ m. made_defined v [] block.instrs [] whole m (length block.instrs) (omega arith))
      (made_split v block.instrs (phi_values block) (subst (IsListed v) (values_are f b block is_block) h))

-- ---- from blocks to points

seen_defined : (f : Function) (v b : ℕ) → IsSeenIn f v b → IsDefinedBefore f v b 0
seen_defined f v _ (Entry h) = ByParam h There
seen_defined f v _ (Made from to h edge) =
    let t : HasTarget f from to = edge_is_out f from to edge in
    extended f v from (length t.block.instrs) to 0 (values_defined f from t.block t.is_block v h) (over_edge f from t.block t.is_block t.label to t.is_target t.leads)
seen_defined f v _ (Onward from to s edge) =
    let t : HasTarget f from to = edge_is_out f from to edge in
    extended f v from 0 to 0 (seen_defined f v from s)
    (joined f from (length t.block.instrs) to 0 from 0 (from_front f from t.block t.is_block t.block.instrs [] (whole f from t.block t.is_block)) (over_edge f from t.block t.is_block t.label to t.is_target t.leads))

-- v is a phi's of the block, or seen in it, or made by one of these instructions at its front
abbrev pub IsBefore : Function → ℕ → ℕ → List Instr → Type 0
IsBefore f v b front = (IsListed v (phis_at f b) ⊎ IsSeenIn f v b) ⊎ IsMadeIn v front

pub before_defined : (f : Function) (v b : ℕ) (block : Block) → slice_get f.blocks b ≡ Some block → (front rest : List Instr) → block.instrs ≡ front ++ rest → IsBefore f v b front → IsDefinedBefore f v b (length front)
before_defined f v b block e front rest is h = ⊎_elim
    (λ k. ⊎_elim
    (λ phi. ByPhi b phi (from_front f b block e front rest is))
    (λ s. extended f v b 0 b (length front) (seen_defined f v b s) (from_front f b block e front rest is))
    k)
    (λ m. made_defined f b block e v [] front rest is m (length front) (omega arith))
    h

-- ---- from points to blocks

-- v is given before the point in its block
pub record IsGiven (f : Function) (v b at : ℕ) : Type 0 where
  place : ℕ
  is_before : place < at
  instr : Instr
  stands : fetch f b place ≡ AtInstr instr
  gives : result_of instr ≡ Some v

abbrev IsSeenAt : Function → ℕ → ℕ → ℕ → Type 0
IsSeenAt f v b at = (IsListed v (phis_at f b) ⊎ IsSeenIn f v b) ⊎ IsGiven f v b at

one_more : (f : Function) (v b at : ℕ) → IsSeenAt f v b at → IsSeenAt f v b (at + 1)
one_more f v b at (inl h) = inl h
one_more f v b at (inr g) = let lt = g.is_before in inr (record { place = g.place; is_before = (let less : g.place < at + 1 = omega (arith, lt) in less); instr = g.instr; stands = g.stands; gives = g.gives })

same_instr : (i j : Instr) → AtInstr i ≡ AtInstr j → i ≡ j
same_instr i j e = cc

-- an instruction of a block by its place
made_at : (v : ℕ) (is : List Instr) (k : ℕ) (i : Instr) → slice_get is k ≡ Some i → result_of i ≡ Some v → IsMadeIn v is
made_at v [] k i e r = absurd (cc)
made_at v (x ∷ is) zero i e r = inl (ap result_of (some_same x i e) ∙ r)
  where
    some_same : (a b : Instr) → Some a ≡ Some b → a ≡ b
    some_same a b e = cc
made_at v (x ∷ is) (suc k) i e r = inr (made_at v is k i e r)

stands_at : (block : Block) (k : ℕ) (i : Instr) (o : Option Instr) (t : Bool) → slice_get block.instrs k ≡ o → fetch_or o t block.term ≡ AtInstr i → slice_get block.instrs k ≡ Some i
stands_at block k i None Bool.true is e = absurd (cc)
stands_at block k i None Bool.false is e = absurd (cc)
stands_at block k i (Some j) t is e = is ∙ ap (λ (x : Instr). Some x) (same_instr j i e)

in_block : (f : Function) (b : ℕ) (block : Block) → slice_get f.blocks b ≡ Some block → (k : ℕ) (i : Instr) → fetch f b k ≡ AtInstr i → slice_get block.instrs k ≡ Some i
in_block f b block is k i e =
    stands_at block k i (slice_get block.instrs k) (Rattle.std.specs.Prelude.nat_eq k (length block.instrs)) refl (sym (ap (λ (o : Option Block). fetch_in o k) is) ∙ e)

branches_from : (f : Function) (b at label : ℕ) → BranchesTo label (fetch f b at) → (block : Block) × ((slice_get f.blocks b ≡ Some block) × IsListed label (Rattle.ir_paths.specs.Paths.targets block.term))
branches_from f b at label br = on (slice_get f.blocks b) refl
  where
    in_or : (o : Option Instr) (t : Bool) (block : Block) → BranchesTo label (fetch_or o t block.term) → IsListed label (Rattle.ir_paths.specs.Paths.targets block.term)
    in_or (Some i) t block h = absurd h
    in_or None Bool.true block h = h
    in_or None Bool.false block h = absurd h

    on : (o : Option Block) → slice_get f.blocks b ≡ o → (block : Block) × ((slice_get f.blocks b ≡ Some block) × IsListed label (Rattle.ir_paths.specs.Paths.targets block.term))
    on None e = absurd (subst (λ (o : Option Block). BranchesTo label (fetch_in o at)) e br)
    on (Some block) e = (block, (e, in_or (slice_get block.instrs at) (Rattle.std.specs.Prelude.nat_eq at (length block.instrs)) block (subst (λ (o : Option Block). BranchesTo label (fetch_in o at)) e br)))

seen_over : (f : Function) (v b at label : ℕ) → BranchesTo label (fetch f b at) → IsSeenAt f v b at → IsSeenIn f v (position_of f label)
seen_over f v b at label br s =
    let found : (block : Block) × ((slice_get f.blocks b ≡ Some block) × IsListed label (Rattle.ir_paths.specs.Paths.targets block.term)) = branches_from f b at label br in
    let edge : IsListed (b, position_of f label) (block_edges f) = target_is_edge f b label found.0 found.1.0 found.1.1 in
    ⊎_elim
    (λ h. ⊎_elim
    (λ phi. Made b (position_of f label) (subst (IsListed v) (sym (values_are f b found.0 found.1.0)) (made_before v found.0.instrs (phi_values found.0) (subst (IsListed v) (phis_are f b found.0 found.1.0) phi))) edge)
    (λ seen. Onward b (position_of f label) seen edge)
    h)
    (λ g. Made b (position_of f label) (subst (IsListed v) (sym (values_are f b found.0 found.1.0)) (made_in v found.0.instrs (phi_values found.0) (made_at v found.0.instrs g.place g.instr (in_block f b found.0 found.1.0 g.place g.instr g.stands) g.gives))) edge)
    s

carried : (f : Function) (v to at b a : ℕ) → LeadsTo f to at b a → IsSeenAt f v b a → IsSeenAt f v to at
carried f v to at _ _ There s = s
carried f v to at _ _ (Over b a i e l) s = carried f v to at b (a + 1) l (one_more f v b a s)
carried f v to at _ _ (Along b a label br l) s = carried f v to at (position_of f label) 0 l (inl (inr (seen_over f v b a label br s)))

defined_seen : (f : Function) (v to at : ℕ) → IsDefinedBefore f v to at → IsSeenAt f v to at
defined_seen f v to at (ByParam h l) = carried f v to at 0 0 l (inl (inr (Entry h)))
defined_seen f v to at (ByPhi b h l) = carried f v to at b 0 l (inl (inl h))
defined_seen f v to at (ByInstr b a i e r l) = carried f v to at b (a + 1) l (inr (record { place = a; is_before = (let less : a < a + 1 = omega arith in less); instr = i; stands = e; gives = r }))

front_part : (front rest : List Instr) (k : ℕ) (i : Instr) → k < length front → slice_get (front ++ rest) k ≡ Some i → slice_get front k ≡ Some i
front_part [] rest k i lt e = absurd (omega arith)
front_part (x ∷ front) rest zero i lt e = e
front_part (x ∷ front) rest (suc k) i lt e = front_part front rest k i (omega arith) e

pub defined_before : (f : Function) (v b : ℕ) (block : Block) → slice_get f.blocks b ≡ Some block → (front rest : List Instr) → block.instrs ≡ front ++ rest → IsDefinedBefore f v b (length front) → IsBefore f v b front
defined_before f v b block e front rest is d = ⊎_elim
    (λ h. inl h)
    (λ g. inr (made_at v front g.place g.instr (front_part front rest g.place g.instr g.is_before (ap (λ (l : List Instr). slice_get l g.place) (sym is) ∙ in_block f b block e g.place g.instr g.stands)) g.gives))
    (defined_seen f v b (length front) d)

-- ---- by words

module _ (f : Function) (numbers : List (Option ℕ)) (chunk v c : ℕ) (o : IsOwn numbers chunk v c) where
  abbrev made : List ℕ
  made = map (block_word numbers chunk) f.blocks

  abbrev params : ℕ
  params = params_word numbers chunk 0 f.params

  abbrev starts : List (ℕ × ℕ)
  starts = (0, params) ∷ made_starts made (block_edges f)

  abbrev kept : List ℕ
  kept = replicate (length (block_edges f)) all_bits

  made_start : ℕ × ℕ → ℕ × ℕ
  made_start e = (e.1, word_at made e.0)

  is_param : HasBit params c → IsListed v (params_of f)
  is_param h = ⊎_elim (λ none. absurd (no_bit c none)) (λ k. k) ((params_told numbers chunk v c o 0 f.params).0 h)

  to_seen : (b : ℕ) → Reaches (block_edges f) kept starts c b → IsSeenIn f v b
  to_seen _ (Start node word listed has) = ⊎_elim
      (λ e. subst (IsSeenIn f v) (sym (ap (λ (p : ℕ × ℕ). p.0) e)) (Entry (is_param (subst (λ (w : ℕ). HasBit w c) (ap (λ (p : ℕ × ℕ). p.1) e) has))))
      (λ later.
      let found : (x : ℕ × ℕ) × (IsListed x (block_edges f) × ((node, word) ≡ (x.1, word_at made x.0))) = listed_map (λ (e : ℕ × ℕ). (e.1, word_at made e.0)) (node, word) (block_edges f) later in
      subst (IsSeenIn f v) (sym (ap (λ (p : ℕ × ℕ). p.0) found.1.1))
      (Made found.0.0 found.0.1 ((made_told numbers chunk v c o f found.0.0).0 (subst (λ (w : ℕ). HasBit w c) (ap (λ (p : ℕ × ℕ). p.1) found.1.1) has)) found.1.0))
      listed
  to_seen _ (Edge e from to word there kept_is has before) = Onward from to (to_seen from before) (listed_at (block_edges f) e (from, to) there)

  all_kept : (n e : ℕ) → e < n → slice_get (replicate n all_bits) e ≡ Some all_bits
  all_kept zero e lt = absurd (omega arith)
  all_kept (suc n) zero lt = refl
  all_kept (suc n) (suc e) lt = all_kept n e (omega arith)

  from_seen : (b : ℕ) → IsSeenIn f v b → Reaches (block_edges f) kept starts c b
  from_seen _ (Entry h) = Start 0 params (inl refl) ((params_told numbers chunk v c o 0 f.params).1 (inr h))
  from_seen _ (Made from to h edge) = Start to (word_at made from) (inr (map_listed (λ (e : ℕ × ℕ). (e.1, word_at made e.0)) (from, to) (block_edges f) edge)) ((made_told numbers chunk v c o f from).1 h)
  from_seen _ (Onward from to s edge) =
      let found = place_of (block_edges f) (from, to) edge in
      Edge found.0 from to all_bits found.1 (all_kept (length (block_edges f)) found.0 (slice_get_within (block_edges f) found.0 (from, to) found.1)) (all_bit c o.small) (from_seen from s)

  seen_bounded : (b : ℕ) → IsSeenIn f v b → b < length f.blocks + 1
  seen_bounded _ (Entry h) = omega arith
  seen_bounded _ (Made from to h edge) = (edge_bounded f from to edge).1
  seen_bounded _ (Onward from to s edge) = (edge_bounded f from to edge).1

  module _ (words : List ℕ) (len : length words ≡ length f.blocks + 1) (answers : (node word : ℕ) → slice_get words node ≡ Some word → AnswersAt (block_edges f) kept starts node word) where
    pub told_seen : (b : ℕ) → HasBit (word_at words b) c → IsSeenIn f v b
    told_seen b has = ⊎_elim
        (λ lt. to_seen b ((answers b (word_at words b) (word_within words b lt)).is_reached c o.small has))
        (λ past. absurd (no_bit c (subst (λ (w : ℕ). HasBit w c) (Rattle.frame_crossing.proofs.Made.no_word_past words b past) has)))
        (cases_lt b (length words))

    pub seen_told : (b : ℕ) → IsSeenIn f v b → HasBit (word_at words b) c
    seen_told b s =
        let lt = seen_bounded b s in
        (answers b (word_at words b) (word_within words b (omega (arith, lt, len)))).is_told c o.small (from_seen b s)
