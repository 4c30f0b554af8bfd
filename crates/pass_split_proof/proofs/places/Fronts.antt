-- The places at the fronts of blocks, to which edges lead.
use Rattle.std.proofs.Common.{◌≡◌, ◌≤◌, inl, inr, ℕ, Bool, true, false, List, [], ◌∷◌, length, refl, sym, ap, ◌∙◌, subst}
use Rattle.std.specs.Prelude.{Option, Some, map, slice_get, if◌then◌else◌, ◌==◌}
use Rattle.pass_proofs.specs.flow_solver.Paths.{IsListed}
use Rattle.pass_proofs.proofs.ir_laws.facts.Truth.{equal_numbers}
use Rattle.pass_proofs.proofs.ir_laws.paths.crossing.Spots.{spot_first, spot_term, Spot}
use Rattle.pass_proofs.proofs.ir_laws.paths.edges.Lists.{listed_at}
use Rattle.pass_proofs.proofs.ir_laws.paths.uses.Paths.{place_of}
use Rattle.pass_proofs.specs.ir_model.Names.{position_of}
use Rattle.pass_proofs.specs.ir_model.declared.instr.Instr.{Instr}
use Rattle.pass_proofs.specs.ir_model.declared.instr.Phi.{Phi}
use Rattle.pass_proofs.specs.ir_model.declared.instr.Terminator.{Terminator}
use Rattle.pass_proofs.specs.ir_model.declared.module.Block.{Block}
use Rattle.pass_proofs.specs.ir_model.declared.module.Function.{Function}
use Rattle.pass_proofs.specs.ir_paths.Paths.{targets}
use Rattle.pass_proofs.specs.pass_intrinsics.Shapes.{done_label}
use Rattle.pass_proofs.specs.pass_intrinsics.declared.shape.Part.{Part}
use Rattle.pass_proofs.specs.pass_intrinsics.declared.shape.Shape.{Shape}
use Rattle.pass_proofs.proofs.split.edges.Cuttable.{HasBlock}
use Rattle.pass_proofs.proofs.split.edges.Pieces.{head_is}
use Rattle.pass_proofs.proofs.split.edges.Targets.{to_redirected}
use Rattle.pass_split_proof.proofs.places.Coded.{ends_here, like_bare, source_spot}
use Rattle.pass_split_proof.proofs.places.Cuts.{first_cut}
use Rattle.pass_split_proof.proofs.places.Lines.{ahead_term}
use Rattle.pass_split_proof.specs.places.Places.{Enters, HasLike, IsNamed, IsPlace, Leads, Straight, ThroughDone, entering}
use Rattle.pass_proofs.specs.split.rules.Pieced.{ArePieces, block_with}
use Rattle.pass_proofs.specs.split.rules.Reached.{Edge, IsLedTo}
use Rattle.pass_proofs.specs.pass_split.Parts.{done_block}
use Rattle.pass_proofs.specs.pass_split.Pieces.{origin_in, pieced_phi, redirected, redirected_term}
use Rattle.pass_proofs.specs.pass_split.Reached.{targets_in}
use Rattle.pass_proofs.specs.pass_split.declared.origin.Origin.{Origin}
use Rattle.pass_proofs.specs.run_step.Step.{AtTerm, fetch, label_of, phis_of}

-- the pieces of a block, each of which stands in g where an edge leads to it
pub record HasCuts (s : Shape) (part : Part) (f g : Function) (origins : List Origin) (b : Block) : Type 0 where
  pub first : Block
  pub rest : List Block
  pub start : ℕ
  pub last : ℕ
  pub are : ArePieces s part b.term b.label (map (pieced_phi s part origins b.label) b.phis) start b.instrs
      (first ∷ rest) last
  pub like : (c : Block) → IsListed c (first ∷ rest) → IsNamed g c.label → HasLike g c
  pub low : length f.names ≤ start
  pub high : last ≤ length g.names

-- the front of a block is a place where the first of its pieces stands
pub at_front : (s : Shape) (part : Part) (f g : Function) (origins : List Origin) (b target : Block) (block piece : ℕ)
    (y : HasCuts s part f g origins b) → slice_get f.blocks block ≡ Some b → IsLedTo f b.label
    → slice_get g.blocks piece ≡ Some target → target.label ≡ b.label → target.instrs ≡ y.first.instrs
    → target.term ≡ y.first.term → IsPlace s part f g block 0 piece 0
at_front s part f g origins b target block piece y there led stands label instrs term =
    let phis : List Phi = map (pieced_phi s part origins b.label) b.phis in
    record {
      source = b;
      there = there;
      led = led;
      behind = [];
      ahead = b.instrs;
      instrs = refl;
      long = refl;
      target = target;
      stands = stands;
      before = [];
      first = y.first;
      rest = y.rest;
      phis = phis;
      new = y.start;
      last = y.last;
      are = subst (λ (n : ℕ). ArePieces s part b.term n phis y.start b.instrs (y.first ∷ y.rest) y.last)
          (sym label) y.are;
      holds = instrs;
      far = refl;
      term = term;
      origin = ap (λ (n : ℕ). origin_in s part (Origin.Piece n) b.instrs) (sym label);
      others = λ c m n. y.like c (inr m) n;
      low = y.low;
      high = y.high;
    }

-- A function whose blocks are cut: labels tell its blocks apart, and edges lead to blocks. Where an edge comes from the
-- last piece of a block the phis behind it take the same. The block of the end has none.
pub record IsCutCode (s : Shape) (part : Part) (f g : Function) : Type 0 where
  pub origins : List Origin
  pub own : (q : ℕ) (b : Block) → slice_get f.blocks q ≡ Some b → position_of f b.label ≡ q
  pub known : (b : Block) (label : ℕ) → IsListed b f.blocks → IsListed label (targets b.term) → HasBlock f label
  pub pieces : (b : Block) → IsListed b f.blocks → HasCuts s part f g origins b
  pub done : IsNamed g (done_label s) → HasLike g (done_block s)
  pub bare : (b : Block) → IsListed b f.blocks → b.label ≡ s.end → b.phis ≡ []
  pub phis : (d b : Block) (l : ℕ) → IsListed d f.blocks → IsListed b f.blocks → IsListed b.label (targets d.term)
      → origin_in s part (Origin.Piece d.label) d.instrs ≡ Origin.Piece l
      → entering l (map (pieced_phi s part origins b.label) b.phis) ≡ entering d.label b.phis

module _ (s : Shape) (part : Part) (f g : Function) (x : IsCutCode s part f g) where
  abbrev pieced : Block → List Phi
  pieced b = map (pieced_phi s part x.origins b.label) b.phis

  -- the front of a block to which an edge of g leads is a place
  record IsFront (b : Block) : Type 0 where
    place : IsPlace s part f g (position_of f b.label) 0 (position_of g b.label) 0
    there : slice_get f.blocks (position_of f b.label) ≡ Some b
    takes : (from : Block) → IsListed from g.blocks
        → entering from.label (phis_of (slice_get g.blocks (position_of g b.label))) ≡ entering from.label (pieced b)

  front : (b : Block) → IsListed b f.blocks → IsLedTo f b.label → IsNamed g b.label → IsFront b
  front b l led named =
      let p = place_of f.blocks b l in
      let there : slice_get f.blocks (position_of f b.label) ≡ Some b = ap (slice_get f.blocks) (x.own p.0 b p.1)
      ∙ p.1 in
      let y = x.pieces b l in
      let head = head_is s part b.term b.label (pieced b) y.start y.last b.instrs (y.first ∷ y.rest) y.are in
      let like = y.like y.first (inl refl) (subst (IsNamed g) (sym head.0) named) in
      let stands : slice_get g.blocks (position_of g b.label) ≡ Some like.block = ap (λ (n : ℕ). slice_get g.blocks
      (position_of g n)) (sym head.0) ∙ like.there in
      let label : like.block.label ≡ b.label = like.label ∙ head.0 in
      record {
        place = at_front s part f g x.origins b like.block (position_of f b.label) (position_of g b.label) y there led
            stands label like.instrs like.term;
        there = there;
        takes = λ from m. ap (entering from.label) (ap phis_of stands) ∙ like.phis from m
            ∙ ap (entering from.label) head.1;
      }

  module _ (block from label : ℕ) (d : Block) (there : slice_get g.blocks from ≡ Some d) (known : HasBlock f label)
      (led : IsLedTo f label) (same : (b : Block) → IsListed b f.blocks → b.label ≡ label
      → entering d.label (map (pieced_phi s part x.origins b.label) b.phis) ≡ entering
      (label_of (slice_get f.blocks block)) b.phis) where
    listed : IsListed d g.blocks
    listed = listed_at g.blocks from d there

    -- an edge of g to the label of a block of f
    pub enters : IsListed label (targets d.term) → Enters s part f g block from label
    enters t =
        let b : Block = known.block in
        let e : b.label ≡ label = known.has_label in
        let y = front b known.listed (subst (IsLedTo f) (sym e) led) (subst (IsNamed g) (sym e) (d, (listed, t))) in
        subst (λ (n : ℕ). Enters s part f g block from n) e
        (record {
          place = y.place;
          phis = ap (λ (o : Option Block). entering (label_of o)
              (phis_of (slice_get g.blocks (position_of g b.label)))) there ∙ y.takes d listed ∙ same b known.listed e
              ∙ ap (λ (o : Option Block). entering (label_of (slice_get f.blocks block)) (phis_of o)) (sym y.there);
        })

  module _ (block from label : ℕ) (d : Block) (there : slice_get g.blocks from ≡ Some d) (known : HasBlock f label)
      (led : IsLedTo f label) (same : (b : Block) → IsListed b f.blocks → b.label ≡ label
      → entering d.label (map (pieced_phi s part x.origins b.label) b.phis) ≡ entering
      (label_of (slice_get f.blocks block)) b.phis) where
    -- through the mark of the end
    through : label ≡ s.end → IsListed (done_label s) (targets d.term) → redirected s label ≡ done_label s
        → Leads s part f g block from label
    through is t r =
        let listed : IsListed d g.blocks = listed_at g.blocks from d there in
        let like = x.done (d, (listed, t)) in
        let to_end : like.block.term ≡ Terminator.Jump label = like.term ∙ ap Terminator.Jump (sym is) in
        let spot : Spot g (position_of g (done_label s)) 0 like.block [] = subst (λ (is : List Instr). Spot g
        (position_of g (done_label s)) 0 like.block is) like.instrs
        (spot_first g (position_of g (done_label s)) like.block like.there) in
        let empty : (b : Block) → IsListed b f.blocks → b.label ≡ label → (l : ℕ) → (n : ℕ)
        → entering l (map (pieced_phi s part x.origins b.label) b.phis) ≡ entering n b.phis = λ b m e l n.
        let none = x.bare b m (e ∙ is) in
        ap (λ (ps : List Phi). entering l (map (pieced_phi s part x.origins b.label) ps)) none
        ∙ ap (entering n) (sym none) in
        ThroughDone is r (record {
          bare = ap phis_of like.there ∙ like_bare g (done_block s) d like listed refl;
          jumps = spot_term g (position_of g (done_label s)) 0 like.block spot ∙ ap AtTerm to_end;
        })
        (enters block (position_of g (done_label s)) label like.block like.there known led
        (λ b m e. empty b m e like.block.label (label_of (slice_get f.blocks block)))
        (subst (λ (t : Terminator). IsListed label (targets t)) (sym to_end) (inl refl)))

    -- an edge of g to the label, redirected
    pub leads : IsListed (redirected s label) (targets d.term) → Leads s part f g block from label
    leads t = on (label == s.end) refl
      where
        on : (b : Bool) → (label == s.end) ≡ b → Leads s part f g block from label
        on true e =
            let r : redirected s label ≡ done_label s = ap (λ (b : Bool). if b then done_label s else label) e in
            through (equal_numbers label s.end e) (subst (λ (n : ℕ). IsListed n (targets d.term)) r t) r
        on false e =
            let r : redirected s label ≡ label = ap (λ (b : Bool). if b then done_label s else label) e in
            Straight r (enters block from label d there known led same
            (subst (λ (n : ℕ). IsListed n (targets d.term)) r t))

  -- ---- ends of blocks

  module _ (block at piece offset : ℕ) (p : IsPlace s part f g block at piece offset) where
    -- an edge of the block leads on
    pub led_on : (label : ℕ) → IsListed label (targets p.source.term) → IsLedTo f label
    led_on label l
        = Edge p.source.label label p.led
        (subst (IsListed label) (sym (ap (λ (n : ℕ). targets_in (slice_get f.blocks n)) (x.own block p.source p.there)
        ∙ ap targets_in p.there)) l)

    pub source_listed : IsListed p.source f.blocks
    source_listed = listed_at f.blocks block p.source p.there

    module _ (t : Terminator) (here : fetch f block at ≡ AtTerm t) where
      at_end : (p.ahead ≡ []) × (p.source.term ≡ t)
      at_end = ahead_term f block p.source at t p.ahead (source_spot s part f g block at piece offset p) here

      cut : p.first ∷ p.rest ≡ block_with p.target.label p.phis [] (redirected_term s p.source.term) ∷ []
      cut = first_cut s part p.source.term p.target.label p.phis p.new p.last [] (p.first ∷ p.rest)
          (subst (λ (xs : List Instr). ArePieces s part p.source.term p.target.label p.phis p.new xs
          (p.first ∷ p.rest) p.last) at_end.0 p.are)

      first_is : p.first ≡ block_with p.target.label p.phis [] (redirected_term s p.source.term)
      first_is = let e = cut in cc

      has_term : p.first.term ≡ redirected_term s t
      has_term = ap (λ (b : Block). b.term) first_is ∙ ap (redirected_term s) at_end.1

      pub end_here : fetch g piece offset ≡ AtTerm (redirected_term s t)
      end_here = ends_here s part f g block at piece offset p (redirected_term s t)
          (ap (λ (b : Block). b.instrs) first_is) has_term

      pub end_leads : (label : ℕ) → IsListed label (targets t) → Leads s part f g block piece label
      end_leads label l =
          let old : IsListed label (targets p.source.term) = subst (λ (u : Terminator). IsListed label (targets u))
          (sym at_end.1) l in
          let out : IsListed (redirected s label) (targets p.target.term) = subst (λ (u : Terminator). IsListed
          (redirected s label) (targets u)) (sym (p.term ∙ has_term)) (to_redirected s t label l) in
          let o : origin_in s part (Origin.Piece p.source.label) p.source.instrs ≡ Origin.Piece p.target.label =
          p.origin ∙ ap (λ (is : List Instr). origin_in s part (Origin.Piece p.target.label) is) at_end.0 in
          leads block piece label p.target p.stands (x.known p.source label source_listed old) (led_on label old)
          (λ b m e. x.phis p.source b p.target.label source_listed m
          (subst (λ (n : ℕ). IsListed n (targets p.source.term)) (sym e) old) o
          ∙ ap (λ (q : Option Block). entering (label_of q) b.phis) (sym p.there)) out
