-- The blocks of a function that is no coroutine, once it is turned: each is one piece.
use Rattle.std.proofs.Common.{◌≡◌, ◌≤◌, ◌<◌, inl, inr, ℕ, ◌+◌, ◌-◌, false, List, [], ◌∷◌, length, refl, sym, ap, ◌∙◌, subst, arith, length-append}
use Rattle.std.specs.Prelude.{Option, Some, map, slice_get, unwrap_or}
use Rattle.pass_proofs.specs.flow_solver.Paths.{IsListed}
use Rattle.pass_proofs.proofs.ir_laws.facts.Numbers.{label_of}
use Rattle.pass_proofs.proofs.rule_laws.frames.turned.Turned.{AreTurned, NoneTurned, OneTurned, names_behind}
use Rattle.pass_proofs.proofs.ir_laws.paths.edges.Lists.{first_is, listed_at}
use Rattle.pass_proofs.proofs.ir_laws.paths.uses.Paths.{place_of}
use Rattle.pass_proofs.proofs.rule_laws.rules.source_rules.Locals.{own_label}
use Rattle.pass_proofs.proofs.rule_laws.rules.turned.Turned.{IsOuter}
use Rattle.pass_proofs.specs.ir_laws.paths.woven_rules.Pairs.{AreDifferent}
use Rattle.pass_proofs.specs.rule_laws.rules.function_rules.Kept.{KeepsFunctionRulesAt}
use Rattle.pass_proofs.specs.rule_names.declared.stage.Stage.{Stage}
use Rattle.pass_proofs.specs.ir_model.Names.{position_of}
use Rattle.pass_proofs.specs.ir_model.declared.instr.Instr.{Instr}
use Rattle.pass_proofs.specs.ir_model.declared.instr.Terminator.{Terminator}
use Rattle.pass_proofs.specs.ir_model.declared.module.Block.{Block}
use Rattle.pass_proofs.specs.ir_model.declared.module.Function.{Function}
use Rattle.pass_proofs.specs.ir_model.declared.module.Module.{Module}
use Rattle.pass_proofs.specs.ir_paths.Paths.{targets}
use Rattle.pass_proofs.specs.pass_intrinsics.Shapes.{done_label}
use Rattle.pass_proofs.specs.pass_intrinsics.declared.cuts.Cut.{Cut}
use Rattle.pass_proofs.specs.pass_intrinsics.declared.shape.Part.{Part}
use Rattle.pass_proofs.specs.pass_intrinsics.declared.shape.Shape.{Shape}
use Rattle.pass_proofs.proofs.split.edges.Entries.{listed_entry}
use Rattle.pass_proofs.proofs.split.edges.Pieces.{head_is, labels}
use Rattle.pass_proofs.proofs.split.edges.Targets.{instr_names_long}
use Rattle.pass_split_proof.proofs.places.Fronts.{HasCuts, IsCutCode, at_front}
use Rattle.pass_split_proof.proofs.places.Labels.{plain_label_low, plain_labels_different, plain_target_known}
use Rattle.pass_split_proof.proofs.places.Parts.{among, blocks_grow}
use Rattle.pass_proofs.proofs.split.plain_functions.Turned.{same_phis, stays}
use Rattle.pass_proofs.proofs.split.plain_functions.Whole.{blocks_turned}
use Rattle.pass_proofs.proofs.split.rules.Cutting.{cut_blocks}
use Rattle.pass_split_proof.specs.places.Places.{HasLike, IsNamed, IsPlace, entering}
use Rattle.pass_proofs.specs.split.rules.Pieced.{ArePiecesOf}
use Rattle.pass_proofs.specs.split.rules.Reached.{Entry}
use Rattle.pass_proofs.specs.pass_split.Parts.{instr_names, plain_of, plain_shape}
use Rattle.pass_proofs.specs.pass_split.Pieces.{after_cut, next_after, origin_in, pieced_phi}
use Rattle.pass_proofs.specs.pass_split.declared.origin.Origin.{Origin}
use Rattle.pass_proofs.specs.run_laws.changed.Changed.{Each}

-- ---- blocks that are turned

module _ (s : Shape) where
  labels_stay : (n : ℕ) (bs cs : List Block) → AreTurned s n bs cs → labels cs ≡ labels bs
  labels_stay _ _ _ (NoneTurned n) = refl
  labels_stay _ _ _ (OneTurned n b c bs cs t rest) = λ k. t.label k ∷ labels_stay (names_behind n b.instrs) bs cs rest k

  -- the block from which one comes, and what becomes of one
  turned_home : (n : ℕ) (bs cs : List Block) → AreTurned s n bs cs → (c : Block) → IsListed c cs → (b : Block)
      × (IsListed b bs × (c.term ≡ b.term))
  turned_home _ _ _ (NoneTurned n) c l = absurd l
  turned_home _ _ _ (OneTurned n b d bs cs t rest) c (inl e) = (b, (inl refl, ap (λ (x : Block). x.term) e ∙ t.term))
  turned_home _ _ _ (OneTurned n b d bs cs t rest) c (inr l)
      = let y = turned_home (names_behind n b.instrs) bs cs rest c l in (y.0, (inr y.1.0, y.1.1))

  turned_outer : (n : ℕ) (bs cs : List Block) → AreTurned s n bs cs → (b : Block) → IsListed b bs
      → Each IsOuter b.instrs
  turned_outer _ _ _ (NoneTurned n) b l = absurd l
  turned_outer _ _ _ (OneTurned n a d bs cs t rest) b (inl e)
      = subst (λ (x : Block). Each IsOuter x.instrs) (sym e) t.outer
  turned_outer _ _ _ (OneTurned n a d bs cs t rest) b (inr l) = turned_outer (names_behind n a.instrs) bs cs rest b l

  turned_first : (n : ℕ) (bs cs : List Block) → AreTurned s n bs cs → (b : Block) → slice_get bs 0 ≡ Some b
      → (c : Block) × ((slice_get cs 0 ≡ Some c) × (c.label ≡ b.label))
  turned_first _ _ _ (NoneTurned n) b e = absurd (cc)
  turned_first _ _ _ (OneTurned n a d bs cs t rest) b e = let same : a ≡ b = cc
      in (d, (refl, t.label ∙ ap label_of same))

  -- edges come from the block itself
  origin_same : (l : ℕ) (is : List Instr) → Each IsOuter is → origin_in s Part.Ramp (Origin.Piece l) is ≡ Origin.Piece l
  origin_same l [] o = refl
  origin_same l (i ∷ is) o = ap (λ (c : Cut). origin_in s Part.Ramp (after_cut (Origin.Piece l) c) is)
      (stays s i [] o.0) ∙ origin_same l is o.1

-- ---- the function

module _ (m : Module) (k : ℕ) (f : Function) (coroutine : f.coroutine ≡ false)
    (rules : KeepsFunctionRulesAt Stage.Plain m k f) where
  abbrev s : Shape
  s = plain_shape f

  abbrev g : Function
  g = plain_of (plain_shape f) f

  abbrev last : ℕ
  last = next_after s Part.Ramp [] s.base f.blocks

  turned : AreTurned (plain_shape f) (length f.names) f.blocks (plain_of (plain_shape f) f).blocks
  turned = blocks_turned Stage.Plain m k f coroutine rules

  different : AreDifferent (labels g.blocks)
  different = subst AreDifferent (sym (labels_stay s (length f.names) f.blocks g.blocks turned))
      (plain_labels_different Stage.Plain m k f rules)

  pub found : (q : ℕ) (c : Block) → slice_get g.blocks q ≡ Some c → position_of g c.label ≡ q
  found q c e = ap (λ (o : Option ℕ). unwrap_or o (length g.blocks)) (first_is label_of g.blocks different q c e)

  like : (c : Block) → IsListed c g.blocks → HasLike g c
  like c l =
      let p = place_of g.blocks c l in
      record {
        block = c;
        there = ap (slice_get g.blocks) (found p.0 c p.1) ∙ p.1;
        label = refl;
        instrs = refl;
        term = refl;
        phis = λ from n. refl;
      }

  are_cut : ArePiecesOf (plain_shape f) Part.Ramp [] (length f.names) f.blocks (plain_of (plain_shape f) f).blocks
      (next_after (plain_shape f) Part.Ramp [] (length f.names) f.blocks)
  are_cut = cut_blocks s Part.Ramp [] s.base f.blocks

  has_cuts : (b : Block) → IsListed b f.blocks → HasCuts (plain_shape f) Part.Ramp f (plain_of (plain_shape f) f) [] b
  has_cuts b l =
      let y = among s Part.Ramp [] s.base last f.blocks g.blocks are_cut b l in
      let grown : s.base ≤ last = blocks_grow s Part.Ramp [] s.base last f.blocks g.blocks are_cut in
      let high : y.next ≤ last = y.high in
      let long : length g.names ≡ length f.names + length (instr_names (last - s.base)) = length-append f.names
      (instr_names (last - s.base)) in
      let count : length (instr_names (last - s.base)) ≡ last - s.base = instr_names_long (last - s.base) in
      record {
        first = y.first;
        rest = y.rest;
        start = y.start;
        last = y.next;
        are = y.are;
        like = λ c w n. like c (y.there c w);
        low = y.low;
        high = omega (arith, grown, high, long, count);
      }

  first_in : (b : Block) (l : IsListed b f.blocks) → IsListed (has_cuts b l).first g.blocks
  unfolding has_cuts
  first_in b l = let y = among s Part.Ramp [] s.base last f.blocks g.blocks are_cut b l in y.there y.first (inl refl)

  no_done : IsNamed g (done_label s) → ⊥
  no_done n =
      let y = turned_home s (length f.names) f.blocks g.blocks turned n.0 n.1.0 in
      let b = plain_target_known Stage.Plain m k f rules y.0 (done_label s) y.1.0
      (subst (λ (t : Terminator). IsListed (done_label s) (targets t)) y.1.1 n.1.1) in
      let low : b.block.label < length f.names = plain_label_low Stage.Plain m k f rules b.block b.listed in
      let same : b.block.label ≡ length f.names + 1 = b.has_label in
      absurd (omega (arith, low, same))

  no_end : (b : Block) → IsListed b f.blocks → b.label ≡ s.end → ⊥
  no_end b l e =
      let low : b.label < length f.names = plain_label_low Stage.Plain m k f rules b l in
      let same : b.label ≡ length f.names = e in
      absurd (omega (arith, low, same))

  same_takes : (d b : Block) (l : ℕ) → IsListed d f.blocks
      → origin_in s Part.Ramp (Origin.Piece d.label) d.instrs ≡ Origin.Piece l
      → entering l (map (pieced_phi s Part.Ramp [] b.label) b.phis) ≡ entering d.label b.phis
  same_takes d b l n o =
      let both : Origin.Piece d.label ≡ Origin.Piece l = sym (origin_same s d.label d.instrs
      (turned_outer s (length f.names) f.blocks g.blocks turned d n)) ∙ o in
      let same : d.label ≡ l = cc in
      ap (entering l) (same_phis s b.label b.phis) ∙ ap (λ (v : ℕ). entering v b.phis) (sym same)

  pub plain_code : IsCutCode (plain_shape f) Part.Ramp f (plain_of (plain_shape f) f)
  plain_code =
      record {
        origins = [];
        own = λ q b e. own_label k f rules.definitions q b e;
        known = λ b label l t. plain_target_known Stage.Plain m k f rules b label l t;
        pieces = has_cuts;
        done = λ n. absurd (no_done n);
        bare = λ b l e. absurd (no_end b l e);
        phis = λ d b l from to leads o. same_takes d b l from o;
      }

  -- the first place
  pub plain_front : (b : Block) → slice_get f.blocks 0 ≡ Some b
      → IsPlace (plain_shape f) Part.Ramp f (plain_of (plain_shape f) f) 0 0 0 0
  plain_front b e =
      let l : IsListed b f.blocks = listed_at f.blocks 0 b e in
      let y = has_cuts b l in
      let c = turned_first s (length f.names) f.blocks g.blocks turned b e in
      let head = head_is s Part.Ramp b.term b.label (map (pieced_phi s Part.Ramp [] b.label) b.phis) y.start y.last
      b.instrs (y.first ∷ y.rest) y.are in
      let p = place_of g.blocks y.first (first_in b l) in
      let at : p.0 ≡ 0 = sym (found p.0 y.first p.1) ∙ ap (position_of g) (head.0 ∙ sym c.1.1) ∙ found 0 c.0 c.1.0 in
      at_front s Part.Ramp f g [] b y.first 0 0 y e (Entry b.label (listed_entry f.blocks b e))
      (ap (slice_get g.blocks) (sym at) ∙ p.1) head.0 refl refl
