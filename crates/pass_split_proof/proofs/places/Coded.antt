-- What stands in a part for an instruction of its function, and where the places behind both are.
use Rattle.std.proofs.Common.{◌≡◌, inl, inr, ℕ, ◌+◌, ◌≤◌, false, List, [], ◌∷◌, length, refl, sym, ap, ◌∙◌, subst, arith}
use Rattle.std.specs.Prelude.{None, Some, slice_get}
use Rattle.pass_proofs.specs.flow_solver.Paths.{IsListed}
use Rattle.pass_proofs.proofs.ir_laws.paths.crossing.Spots.{Spot, spot_first, spot_next, spot_term}
use Rattle.pass_proofs.proofs.ir_laws.paths.edges.Lists.{listed_at}
use Rattle.pass_proofs.specs.ir_model.Names.{position_of}
use Rattle.pass_proofs.specs.ir_model.declared.instr.Instr.{Instr}
use Rattle.pass_proofs.specs.ir_model.declared.instr.Phi.{Phi}
use Rattle.pass_proofs.specs.ir_model.declared.instr.Terminator.{Terminator}
use Rattle.pass_proofs.specs.ir_model.declared.module.Block.{Block}
use Rattle.pass_proofs.specs.ir_model.declared.module.Function.{Function}
use Rattle.pass_proofs.specs.ir_paths.Paths.{targets}
use Rattle.pass_proofs.specs.pass_intrinsics.Cuts.{cut_at}
use Rattle.pass_proofs.specs.pass_intrinsics.Lowered.{lowered, names_taken}
use Rattle.pass_proofs.specs.pass_intrinsics.Shapes.{pass_label}
use Rattle.pass_proofs.specs.pass_intrinsics.declared.cuts.Cut.{Cut}
use Rattle.pass_proofs.specs.pass_intrinsics.declared.shape.Part.{Part}
use Rattle.pass_proofs.specs.pass_intrinsics.declared.shape.Shape.{Shape}
use Rattle.pass_proofs.proofs.split.edges.Pieces.{HasHead, head_is}
use Rattle.pass_split_proof.proofs.places.Cuts.{AsOne, AtBegin, AtMark, AtReturn, AtSuspend, AtTransfer, IsCut, first_cut, names_grow}
use Rattle.pass_split_proof.proofs.places.Lines.{ahead_instr, all_there, line_there}
use Rattle.pass_proofs.proofs.split.uses.Sources.{origin_marks, origin_stays}
use Rattle.pass_split_proof.specs.places.Places.{AreNew, BeginsAgain, HasCode, HasLike, IsCode, IsPlace, Marks, Remain, Returns, Stays, Suspends, Transfers, entering}
use Rattle.pass_proofs.specs.split.rules.Pieced.{ArePieces, block_with, in_front}
use Rattle.pass_proofs.specs.pass_split.Pieces.{begins_again, origin_in, pass_block, stop_label}
use Rattle.pass_proofs.specs.pass_split.declared.origin.Origin.{Origin}
use Rattle.pass_proofs.specs.run_step.Step.{AtInstr, AtTerm, fetch, phis_of}

-- ---- phis

pub none_entering : (label : ℕ) (ps : List Phi) → entering label ps ≡ [] → ps ≡ []
none_entering label [] e = refl
none_entering label (p ∷ ps) e = absurd (cc)

abbrev instrs_of : Block → List Instr
instrs_of b = b.instrs

abbrev term_of : Block → Terminator
term_of b = b.term

-- a block like one without phis has none
pub like_bare : (g : Function) (c from : Block) (x : HasLike g c) → IsListed from g.blocks → c.phis ≡ []
    → x.block.phis ≡ []
like_bare g c from x l e = none_entering from.label x.block.phis (x.phis from l ∙ ap (entering from.label) e)

-- ---- a place

module _ (s : Shape) (part : Part) (f g : Function) (block at piece offset : ℕ)
    (p : IsPlace s part f g block at piece offset) where
  pub source_spot : Spot f block at p.source p.ahead
  source_spot = record { got = p.there; ahead = p.behind; is = p.instrs; long = p.long }

  pub piece_spot : Spot g piece offset p.target p.first.instrs
  piece_spot = record { got = p.stands; ahead = p.before; is = p.holds; long = p.far }

  pub piece_listed : IsListed p.target g.blocks
  piece_listed = listed_at g.blocks piece p.target p.stands

  -- where the first piece that is left has no instructions its end stands there
  pub ends_here : (t : Terminator) → p.first.instrs ≡ [] → p.first.term ≡ t → fetch g piece offset ≡ AtTerm t
  ends_here t none e
      = spot_term g piece offset p.target (subst (λ (is : List Instr). Spot g piece offset p.target is) none
      piece_spot) ∙ ap AtTerm (p.term ∙ e)

  -- the block of a label to which the piece jumps
  pub jumped : (c : Block) (label : ℕ) → IsListed c p.rest → c.label ≡ label → p.first.term ≡ Terminator.Jump label
      → HasLike g c
  jumped c label l e jump
      = p.others c l (
        p.target,
        (
          piece_listed,
          subst (λ (t : Terminator). IsListed c.label (targets t)) (sym (p.term
              ∙ jump)) (inl e),
        ),
      )

  module _ (i : Instr) (is : List Instr) (ahead : p.ahead ≡ i ∷ is) where
    abbrev code : List Instr
    code = lowered s part p.new i

    abbrev Goal : Type 0
    Goal = IsCode s part f g block at piece offset i is p.source.term

    here : Spot f block at p.source (i ∷ is)
    here = subst (λ (xs : List Instr). Spot f block at p.source xs) ahead source_spot

    next : Spot f block (at + 1) p.source is
    next = spot_next f block at p.source i is here

    cut : IsCut s part p.source.term p.target.label p.phis p.new p.last i is (p.first ∷ p.rest)
    cut = first_cut s part p.source.term p.target.label p.phis p.new p.last (i ∷ is) (p.first ∷ p.rest)
        (subst (λ (xs : List Instr). ArePieces s part p.source.term p.target.label p.phis p.new xs
        (p.first ∷ p.rest) p.last) ahead p.are)

    are_new : p.new + names_taken i ≤ p.last → AreNew f g p.new (names_taken i)
    are_new few = let low = p.low in let high = p.high in record { low = low; high = omega (arith, few, high) }

    stays : (c : Block) (ds : List Block) → begins_again part i ≡ false → cut_at s part i is ≡ Cut.Stays
        → ArePieces s part p.source.term p.target.label p.phis (p.new + names_taken i) is (c ∷ ds) p.last
        → p.first ∷ p.rest ≡ in_front code c ∷ ds → Goal
    stays c ds again cuts more same =
        let first_is : p.first ≡ in_front code c = cc in
        let rest_is : p.rest ≡ ds = cc in
        let line = line_there g piece p.target code c.instrs offset
        (subst (λ (xs : List Instr). Spot g piece offset p.target xs) (ap instrs_of first_is) piece_spot) in
        let few = names_grow s part p.source.term p.target.label p.phis (p.new + names_taken i) p.last is
        (c ∷ ds) more in
        let low : length f.names ≤ p.new = p.low in
        Stays p.new again cuts (are_new few) line.0
        (record {
          source = p.source;
          there = p.there;
          led = p.led;
          behind = next.ahead;
          ahead = is;
          instrs = next.is;
          long = next.long;
          target = p.target;
          stands = p.stands;
          before = line.1.ahead;
          first = c;
          rest = ds;
          phis = p.phis;
          new = p.new + names_taken i;
          last = p.last;
          are = more;
          holds = line.1.is;
          far = line.1.long;
          term = p.term ∙ ap term_of first_is;
          origin = p.origin ∙ ap (λ (xs : List Instr). origin_in s part (Origin.Piece p.target.label) xs) ahead
              ∙ origin_stays s part p.target.label i is again cuts;
          others = λ d l n. p.others d (subst (λ (xs : List Block). IsListed d xs) (sym rest_is) l) n;
          low = omega (arith, low);
          high = p.high;
        })

    marks : (mark : ℕ) (ds : List Block) → begins_again part i ≡ false → cut_at s part i is ≡ Cut.Marks mark
        → ArePieces s part p.source.term mark [] (p.new + names_taken i) is ds p.last
        → p.first ∷ p.rest ≡ block_with p.target.label p.phis code (Terminator.Jump mark) ∷ ds → Goal
    marks mark ds again cuts more same
        = on ds more (head_is s part p.source.term mark [] (p.new + names_taken i) p.last is ds more) rest_is
      where
        first_is : p.first ≡ block_with p.target.label p.phis code (Terminator.Jump mark)
        first_is = cc

        rest_is : p.rest ≡ ds
        rest_is = cc

        jump : p.first.term ≡ Terminator.Jump mark
        jump = ap term_of first_is

        remain : Remain g piece offset code (Terminator.Jump mark)
        remain = subst (λ (t : Terminator). Remain g piece offset code t) (p.term
            ∙ jump) (all_there g piece p.target code offset
            (subst (λ (xs : List Instr). Spot g piece offset p.target xs) (ap instrs_of first_is) piece_spot))

        few : p.new + names_taken i ≤ p.last
        few = names_grow s part p.source.term mark [] (p.new + names_taken i) p.last is ds more

        low : length f.names ≤ p.new
        low = p.low

        on : (es : List Block) → ArePieces s part p.source.term mark [] (p.new + names_taken i) is es p.last
            → HasHead s part mark [] es → p.rest ≡ es → Goal
        on [] m h r = absurd h
        on (d ∷ es) m h r =
            let in_rest : IsListed d p.rest = subst (λ (xs : List Block). IsListed d xs) (sym r) (inl refl) in
            let like = jumped d mark in_rest h.0 jump in
            let there : slice_get g.blocks (position_of g mark) ≡ Some like.block = ap (λ (n : ℕ). slice_get g.blocks
            (position_of g n)) (sym h.0) ∙ like.there in
            let label : like.block.label ≡ mark = like.label ∙ h.0 in
            Marks p.new mark again cuts (are_new few) remain
            (ap phis_of there ∙ like_bare g d p.target like piece_listed h.1)
            (record {
              source = p.source;
              there = p.there;
              led = p.led;
              behind = next.ahead;
              ahead = is;
              instrs = next.is;
              long = next.long;
              target = like.block;
              stands = there;
              before = [];
              first = d;
              rest = es;
              phis = [];
              new = p.new + names_taken i;
              last = p.last;
              are = subst (λ (n : ℕ). ArePieces s part p.source.term n [] (p.new + names_taken i) is (d ∷ es) p.last)
                  (sym label) m;
              holds = like.instrs;
              far = refl;
              term = like.term;
              origin = p.origin ∙ ap (λ (xs : List Instr). origin_in s part (Origin.Piece p.target.label) xs) ahead
                  ∙ origin_marks s part p.target.label mark i is again cuts
                  ∙ ap (λ (n : ℕ). origin_in s part (Origin.Piece n) is) (sym label);
              others = λ e l n. p.others e (subst (λ (xs : List Block). IsListed e xs) (sym r) (inr l)) n;
              low = omega (arith, low);
              high = p.high;
            })

    transfers : (j : ℕ) → begins_again part i ≡ false → cut_at s part i is ≡ Cut.Transfers j
        → p.last ≡ p.new + names_taken i → p.first ∷ p.rest ≡ block_with p.target.label p.phis []
        (Terminator.Jump (pass_label s j)) ∷ pass_block (pass_label s j) code ∷ [] → Goal
    transfers j again cuts count same =
        let label : ℕ = pass_label s j in
        let c : Block = pass_block label code in
        let first_is : p.first ≡ block_with p.target.label p.phis [] (Terminator.Jump label) = cc in
        let rest_is : p.rest ≡ c ∷ [] = cc in
        let like = jumped c label (subst (λ (xs : List Block). IsListed c xs) (sym rest_is) (inl refl)) refl
        (ap term_of first_is) in
        let spot : Spot g (position_of g label) 0 like.block code = subst (λ (xs : List Instr). Spot g
        (position_of g label) 0 like.block xs) like.instrs
        (spot_first g (position_of g label) like.block like.there) in
        Transfers p.new j again cuts (are_new (omega (arith, count))) (ends_here (Terminator.Jump label)
        (ap instrs_of first_is) (ap term_of first_is))
        (ap phis_of like.there ∙ like_bare g c p.target like piece_listed refl)
        (subst (λ (t : Terminator). Remain g (position_of g label) 0 code t) like.term
        (all_there g (position_of g label) like.block code 0 spot))

    pub code_here : Goal
    code_here = on cut
      where
        on : IsCut s part p.source.term p.target.label p.phis p.new p.last i is (p.first ∷ p.rest) → Goal
        on (AsOne c ds again cuts more same) = stays c ds again cuts more same
        on (AtMark mark ds again cuts more same) = marks mark ds again cuts more same
        on (AtSuspend again cuts same) =
            let first_is : p.first ≡ block_with p.target.label p.phis [] (Terminator.Jump (stop_label p.source.term)) =
            cc in
            Suspends again cuts (ends_here (Terminator.Jump (stop_label p.source.term)) (ap instrs_of first_is)
            (ap term_of first_is))
        on (AtReturn again cuts same) =
            let first_is : p.first ≡ block_with p.target.label p.phis [] (Terminator.Ret None) = cc in
            Returns again cuts (ends_here (Terminator.Ret None) (ap instrs_of first_is) (ap term_of first_is))
        on (AtTransfer j again cuts count same) = transfers j again cuts count same
        on (AtBegin again same) =
            let first_is : p.first ≡ block_with p.target.label p.phis [] Terminator.Unreachable = cc in
            BeginsAgain again (ends_here Terminator.Unreachable (ap instrs_of first_is) (ap term_of first_is))

    pub coded : HasCode s part f g block at piece offset i
    coded = record {
      after = is;
      end = p.source.term;
      remain = all_there f block p.source (i ∷ is) at here;
      code = code_here;
    }

-- at a place of a function its instruction has code
pub has_code : (s : Shape) (part : Part) (f g : Function) (block at piece offset : ℕ) (i : Instr)
    → IsPlace s part f g block at piece offset → fetch f block at ≡ AtInstr i
    → HasCode s part f g block at piece offset i
has_code s part f g block at piece offset i p e =
    let x = ahead_instr f block p.source at i p.ahead (source_spot s part f g block at piece offset p) e in
    coded s part f g block at piece offset p i x.0 x.1
