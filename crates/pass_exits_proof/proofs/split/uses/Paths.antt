-- Paths of a part, once the blocks are left out that aren't reached.
use Rattle.std.proofs.Common.{◌≡◌, inl, inr, ℕ, ◌+◌, Bool, true, List, [], ◌∷◌, length, refl, sym, ap, ◌∙◌, subst, arith}
use Rattle.std.specs.List.{cons_option}
use Rattle.std.specs.Prelude.{None, Option, Some, filter, filter_map, map, slice_get, unwrap_or, ◌==◌}
use Rattle.pass_fetch_proof.proofs.rule_laws.frames.crossing.Paths.{edge_from}
use Rattle.pass_split.specs.Parts.{done_block}
use Rattle.pass_split.specs.Pieces.{comes_from, incoming_from, origin_in, pieced_incoming, pieced_phi}
use Rattle.pass_split.specs.Reached.{is_flagged, kept_block, kept_phi, pruned, reached}
use Rattle.pass_split.specs.declared.origin.Origin.{Origin}
use Rattle.pass_fetch_proof.specs.rule_uses.Undefined.{Entry, Next, ReachesWithout}
use Rattle.pass_fetch_proof.specs.rule_uses.Uses.{block_values, locals_in, made_by_instrs, made_by_phis, phi_values, values_at, values_in}
use Rattle.pass_fetch_proof.proofs.ir_laws.facts.Truth.{itself}
use Rattle.pass_fetch_proof.proofs.rule_laws.rules.source_rules.Locals.{found_in}
use Rattle.pass_fetch_proof.specs.flow_solver.Paths.{IsListed}
use Rattle.pass_fetch_proof.specs.ir_parts.Contents.{ending_operands}
use Rattle.pass_fetch_proof.specs.pass_intrinsics.declared.shape.Part.{Part}
use Rattle.pass_fetch_proof.specs.pass_intrinsics.declared.shape.Shape.{Shape}
use Rattle.ir_model.specs.Names.{position_of}
use Rattle.ir_model.specs.declared.instr.Incoming.{Incoming}
use Rattle.ir_model.specs.declared.instr.Instr.{Instr}
use Rattle.ir_model.specs.declared.instr.Phi.{Phi}
use Rattle.ir_model.specs.declared.instr.Terminator.{Terminator}
use Rattle.ir_model.specs.declared.module.Block.{Block}
use Rattle.ir_model.specs.declared.module.Function.{Function}
use Rattle.ir_model.specs.declared.operand.Operand.{Operand}
use Rattle.pass_fetch_proof.specs.ir_paths.Paths.{targets}
use Rattle.pass_fetch_proof.proofs.rule_laws.rules.uses.Plain.{IsPlain}
use Rattle.pass_fetch_proof.proofs.rule_laws.frames.uses.Lowering.{ComesBy}
use Rattle.pass_fetch_proof.proofs.rule_laws.frames.uses.Quiet.{IsQuiet}
use Rattle.pass_fetch_proof.proofs.ir_laws.paths.uses.Sources.{IsIn}
use Rattle.pass_exits_proof.proofs.split.uses.Sources.{NoSuspends, piece_there}
use Rattle.pass_fetch_proof.proofs.ir_laws.facts.Numbers.{Source}
use Rattle.pass_fetch_proof.proofs.rule_laws.rules.uses.Unused.{IsUnused}
use Rattle.pass_exits_proof.proofs.split.uses.Walk.{IsCutUp, IsLeft, IsWalked, enter}
use Rattle.pass_fetch_proof.proofs.ir_laws.paths.replaced.Known.{listed_mapped}
use Rattle.pass_exits_proof.specs.split.rules.Pieced.{ArePieces, BeginsAgain, Ends, Marks, Returns, Stays, Suspends, Transfers}
use Rattle.pass_fetch_proof.proofs.ir_laws.facts.Lists.{label_found}
use Rattle.pass_fetch_proof.proofs.ir_laws.paths.edges.Lists.{from_filtered, to_filtered}
use Rattle.pass_fetch_proof.proofs.ir_laws.paths.uses.Paths.{from_mapped, place_of, there_listed}

-- a block that is listed is found by its label, or another with that label
pub listed_found : (g : Function) (c : Block) → IsListed c g.blocks → (b : Block) × (slice_get g.blocks (position_of g c.label) ≡ Some b)
listed_found g c l =
    let p = place_of g.blocks c l in
    let x = found_in (λ d. d.label == c.label) g.blocks p.0 c p.1 (itself c.label) in
    (x.block, ap (λ (o : Option ℕ). slice_get g.blocks (unwrap_or o (length g.blocks))) x.found ∙ x.there)

-- ---- phis whose operands go in part

kept_values : (flags : List Bool) (before : List ℕ) (ps : List Phi) → made_by_phis before (map (kept_phi flags) ps) ≡ made_by_phis before ps
kept_values flags before [] = refl
kept_values flags before (p ∷ ps) = kept_values flags (p.result ∷ before) ps

pub from_filter_map : {A B : Type 0} (t : A → Option B) (xs : List A) (y : B) → IsListed y (filter_map t xs) → (x : A) × (IsListed x xs × (t x ≡ Some y))
from_filter_map t [] y l = absurd l
from_filter_map {A = A} {B = B} t (x ∷ xs) y l = on (t x) refl l (λ k. from_filter_map t xs y k)
  where
    on : (o : Option B) → t x ≡ o → IsListed y (cons_option o (filter_map t xs)) → (IsListed y (filter_map t xs) → (z : A) × (IsListed z xs × (t z ≡ Some y))) → (z : A) × (IsListed z (x ∷ xs) × (t z ≡ Some y))
    on None e k more = let z = more k in (z.0, (inr z.1.0, z.1.1))
    on (Some w) e (inl same) more = (x, (inl refl, e ∙ ap (λ u. Some u) (sym same)))
    on (Some w) e (inr k) more = let z = more k in (z.0, (inr z.1.0, z.1.1))

-- the pieces of a block have its phis alone
pieces_phis : (s : Shape) (part : Part) (t : Terminator) (label n last : ℕ) (phis : List Phi) (is : List Instr) (cs : List Block) → ArePieces s part t label phis n is cs last → (c : Block) (y : Phi) → IsListed c cs → IsListed y c.phis → IsListed y phis
pieces_phis s part t _ _ _ _ _ _ (Ends label n phis) c y (inl e) l = subst (λ (x : Block). IsListed y x.phis) e l
pieces_phis s part t _ _ _ _ _ _ (Ends label n phis) c y (inr h) l = absurd h
pieces_phis s part t _ _ _ _ _ _ (Stays label n last phis i is d ds again e more) c y (inl same) l = pieces_phis s part t label _ last phis is (d ∷ ds) more d y (inl refl) (subst (λ (x : Block). IsListed y x.phis) same l)
pieces_phis s part t _ _ _ _ _ _ (Stays label n last phis i is d ds again e more) c y (inr h) l = pieces_phis s part t label _ last phis is (d ∷ ds) more c y (inr h) l
pieces_phis s part t _ _ _ _ _ _ (Marks label n last mark phis i is ds again e more) c y (inl same) l = subst (λ (x : Block). IsListed y x.phis) same l
pieces_phis s part t _ _ _ _ _ _ (Marks label n last mark phis i is ds again e more) c y (inr h) l = absurd (pieces_phis s part t mark _ last [] is ds more c y h l)
pieces_phis s part t _ _ _ _ _ _ (Suspends label n phis i is again e) c y (inl same) l = subst (λ (x : Block). IsListed y x.phis) same l
pieces_phis s part t _ _ _ _ _ _ (Suspends label n phis i is again e) c y (inr h) l = absurd h
pieces_phis s part t _ _ _ _ _ _ (Returns label n phis i is again e) c y (inl same) l = subst (λ (x : Block). IsListed y x.phis) same l
pieces_phis s part t _ _ _ _ _ _ (Returns label n phis i is again e) c y (inr h) l = absurd h
pieces_phis s part t _ _ _ _ _ _ (Transfers label n j phis i is again e) c y (inl same) l = subst (λ (x : Block). IsListed y x.phis) same l
pieces_phis s part t _ _ _ _ _ _ (Transfers label n j phis i is again e) c y (inr (inl same)) l = absurd (subst (λ (x : Block). IsListed y x.phis) same l)
pieces_phis s part t _ _ _ _ _ _ (Transfers label n j phis i is again e) c y (inr (inr h)) l = absurd h
pieces_phis s part t _ _ _ _ _ _ (BeginsAgain label n phis i is again) c y (inl same) l = subst (λ (x : Block). IsListed y x.phis) same l
pieces_phis s part t _ _ _ _ _ _ (BeginsAgain label n phis i is again) c y (inr h) l = absurd h

-- ---- the part

-- A part before blocks are left out: each block comes from somewhere, none but pieces have phis, and phis name the pieces from which edges come.
pub record IsPieced (f h : Function) (s : Shape) (part : Part) (origins : List Origin) (head : List Block) (css : List (List Block)) (whole : Function) : Type 0 where
  pub cut : IsCutUp f h s part origins head css
  pub sources : (c : Block) → IsListed c whole.blocks → (x : Source) × IsIn head css (done_block s) x c
  pub there : (x : Source) (c : Block) → IsIn head css (done_block s) x c → IsListed c whole.blocks
  pub bare : (c : Block) → IsListed c head → c.phis ≡ []
  pub origin : (q : ℕ) (b : Block) (y : Phi) (i : Incoming) (l : ℕ) → slice_get h.blocks q ≡ Some b → IsListed y b.phis → IsListed i y.incoming → comes_from s part b.label i.from (slice_get origins i.from) ≡ Some l → (q0 : ℕ) × ((b0 : Block) × ((slice_get h.blocks q0 ≡ Some b0) × ((b0.label ≡ i.from) × (NoSuspends b0.instrs × (origin_in s part (Origin.Piece b0.label) b0.instrs ≡ Origin.Piece l)))))
  pub plain : (q : ℕ) (b : Block) (y : Phi) (i : Incoming) (v : ℕ) → slice_get h.blocks q ≡ Some b → IsListed y b.phis → IsListed i y.incoming → i.value ≡ Operand.Local v → IsPlain f v

module _ (f h : Function) (s : Shape) (part : Part) (origins : List Origin) (head : List Block) (css : List (List Block)) (whole : Function) (p : IsPieced f h s part origins head css whole) (v : ℕ) (by_instr : (i : Instr) → ComesBy f s part i v → IsPlain f v) (A : ℕ → Type 0) (N : ℕ → ℕ → Block → List Instr → Type 0) (quiet : IsQuiet f h s part v A N) where
  abbrev g : Function
  g = pruned whole

  abbrev flags : List Bool
  flags = reached whole

  abbrev Walked : Source → Block → Type 0
  Walked x c = IsWalked f h s part origins head css p.cut v by_instr A N quiet x (phi_values c) c

  -- a block of the part to which a path without the value leads
  pub record Comes (d : Block) : Type 0 where
    pub source : Source
    pub block : Block
    pub in_part : IsIn head css (done_block s) source block
    pub is : d ≡ kept_block flags block
    pub walked : Walked source block

  pub kept_from : (d : Block) → IsListed d g.blocks → (c : Block) × (IsListed c whole.blocks × ((d ≡ kept_block flags c) × (is_flagged flags c.label ≡ true)))
  kept_from d l =
      let x = from_mapped (kept_block flags) (filter (λ b. is_flagged flags b.label) whole.blocks) d l in
      let y = from_filtered (λ (b : Block). is_flagged flags b.label) whole.blocks x.0 x.1.0 in
      (x.0, (y.0, (x.1.1, y.1)))

  pub same_values : (d c : Block) → d ≡ kept_block flags c → phi_values d ≡ phi_values c
  same_values d c e = ap (λ (b : Block). made_by_phis [] b.phis) e ∙ kept_values flags [] c.phis

  -- behind a block that doesn't make the value
  left_behind : (d : Block) (x : Comes d) → (IsListed v (block_values d) → ⊥) → IsLeft f h s part origins head css p.cut v by_instr A N quiet x.source x.block.label x.block.term
  left_behind d x none =
      x.walked.last
      (λ l. none (subst (λ (b : Block). IsListed v (block_values b)) (sym x.is) (subst (λ (ns : List ℕ). IsListed v (made_by_instrs ns x.block.instrs)) (sym (kept_values flags [] x.block.phis)) l)))

  module _ (entry : (d : Block) → slice_get g.blocks 0 ≡ Some d → Comes d) where
    pub comes : (at : ℕ) → ReachesWithout g v at → (d : Block) → slice_get g.blocks at ≡ Some d → Comes d
    comes _ Entry d there = entry d there
    comes _ (Next from to r none e) d there =
        let x = edge_from g from to e in
        let same : from ≡ x.position = (let k : from ≡ 0 + x.position = x.is_from in omega (arith, k)) in
        let got : slice_get g.blocks from ≡ Some x.block = ap (slice_get g.blocks) same ∙ x.got in
        let before = comes from r x.block got in
        let left = left_behind x.block before (λ l. none (subst (λ (o : Option Block). IsListed v (values_in o)) (sym got) l)) in
        let leads : IsListed x.label (targets before.block.term) = subst (λ (b : Block). IsListed x.label (targets b.term)) before.is x.leads in
        let stands : slice_get g.blocks (position_of g x.label) ≡ Some d = ap (slice_get g.blocks) x.is_to ∙ there in
        let kept = kept_from d (there_listed g.blocks to d there) in
        let source = p.sources kept.0 kept.1.0 in
        let labelled : kept.0.label ≡ x.label = ap (λ (b : Block). b.label) (sym kept.1.1.0) ∙ label_found g x.label d stands in
        record {
          source = source.0;
          block = kept.0;
          in_part = source.1;
          is = kept.1.1.0;
          walked = enter f h s part origins head css p.cut v by_instr A N quiet source.0 kept.0 (left.next x.label leads source.0 kept.0 source.1 labelled);
        }

    -- no block to which such a path leads uses the value
    pub unused : (at : ℕ) (d : Block) → slice_get g.blocks at ≡ Some d → ReachesWithout g v at → IsUnused v (phi_values d) d.instrs
    unused at d there r =
        let x = comes at r d there in
        subst (λ (b : Block). IsUnused v (phi_values b) b.instrs) (sym x.is) (subst (λ (ns : List ℕ). IsUnused v ns x.block.instrs) (sym (kept_values flags [] x.block.phis)) x.walked.uses)

    pub end_unused : (at : ℕ) (d : Block) → slice_get g.blocks at ≡ Some d → ReachesWithout g v at → (IsListed v (block_values d) → ⊥) → IsListed v (locals_in (ending_operands d.term)) → ⊥
    end_unused at d there r none l =
        let x = comes at r d there in
        (left_behind d x none).operands (subst (λ (b : Block). IsListed v (locals_in (ending_operands b.term))) x.is l)

    -- ---- phis

    phis_from : (x : Source) (c : Block) (y : Phi) → IsIn head css (done_block s) x c → IsListed y c.phis → (q : ℕ) × ((b : Block) × ((slice_get h.blocks q ≡ Some b) × ((z : Phi) × (IsListed z b.phis × (y ≡ pieced_phi s part origins b.label z)))))
    phis_from Source.Head c y l m = absurd (subst (IsListed y) (p.bare c l) m)
    phis_from Source.Last c y l m = absurd (subst (λ (b : Block). IsListed y b.phis) l m)
    phis_from (Source.Of q) c y l m =
        let b = p.cut.blocks q l.0 l.1.0 in
        let k = p.cut.pieces q b.0 b.1 in
        let both : Some l.0 ≡ Some (k.first ∷ k.rest) = sym l.1.0 ∙ k.there in
        let same : l.0 ≡ k.first ∷ k.rest = cc in
        let z = from_mapped (pieced_phi s part origins b.0.label) b.0.phis y (pieces_phis s part b.0.term b.0.label k.new k.last (map (pieced_phi s part origins b.0.label) b.0.phis) b.0.instrs (k.first ∷ k.rest) k.pieces c y (subst (IsListed c) same l.1.1) m) in
        (q, (b.0, (b.1, z)))

    came : (i j : Incoming) (o : Option ℕ) → incoming_from i o ≡ Some j → (l : ℕ) × ((o ≡ Some l) × ((j.value ≡ i.value) × (j.from ≡ l)))
    came i j None e = absurd (cc)
    came i j (Some l) e =
        let same : record { value = i.value; from = l } ≡ j = cc in
        (l, (refl, (ap (λ (x : Incoming). x.value) (sym same), ap (λ (x : Incoming). x.from) (sym same))))

    -- an operand of a phi of the part is one of a phi of the function, whose label is that of a piece from which its edges come
    record IsFromPhi (j : Incoming) : Type 0 where
      to : ℕ
      block : Block
      got : slice_get h.blocks to ≡ Some block
      phi : Phi
      in_block : IsListed phi block.phis
      incoming : Incoming
      in_phi : IsListed incoming phi.incoming
      value : j.value ≡ incoming.value
      from : ℕ
      source : Block
      source_got : slice_get h.blocks from ≡ Some source
      source_label : source.label ≡ incoming.from
      quiet_source : NoSuspends source.instrs
      origin : origin_in s part (Origin.Piece source.label) source.instrs ≡ Origin.Piece j.from

    of_pieced : (q : ℕ) (b : Block) (z : Phi) (j : Incoming) → slice_get h.blocks q ≡ Some b → IsListed z b.phis → IsListed j (pieced_phi s part origins b.label z).incoming → IsFromPhi j
    of_pieced q b z j got l incoming =
        let i = from_filter_map (pieced_incoming s part origins b.label) z.incoming j incoming in
        let c = came i.0 j (comes_from s part b.label i.0.from (slice_get origins i.0.from)) i.1.1 in
        let o = p.origin q b z i.0 c.0 got l i.1.0 c.1.0 in
        record {
          to = q;
          block = b;
          got = got;
          phi = z;
          in_block = l;
          incoming = i.0;
          in_phi = i.1.0;
          value = c.1.1.0;
          from = o.0;
          source = o.1.0;
          source_got = o.1.1.0;
          source_label = o.1.1.1.0;
          quiet_source = o.1.1.1.1.0;
          origin = o.1.1.1.1.1 ∙ ap (λ (n : ℕ). Origin.Piece n) (sym c.1.1.1);
        }

    of_block : (x : Source) (c : Block) (z : Phi) (j : Incoming) → IsIn head css (done_block s) x c → IsListed z c.phis → IsListed j z.incoming → IsFromPhi j
    of_block x c z j in_part l incoming =
        let w = phis_from x c z in_part l in
        of_pieced w.0 w.1.0 w.1.1.1.0 j w.1.1.0 w.1.1.1.1.0 (subst (λ (y : Phi). IsListed j y.incoming) w.1.1.1.1.1 incoming)

    -- and the label stays
    of_kept : (d : Block) (y : Phi) (j : Incoming) → IsListed d g.blocks → IsListed y d.phis → IsListed j y.incoming → IsFromPhi j × (is_flagged flags j.from ≡ true)
    of_kept d y j in_g phi incoming =
        let kept = kept_from d in_g in
        let source = p.sources kept.0 kept.1.0 in
        let z = from_mapped (kept_phi flags) kept.0.phis y (subst (λ (b : Block). IsListed y b.phis) kept.1.1.0 phi) in
        let j_kept = from_filtered (λ (i : Incoming). is_flagged flags i.from) z.0.incoming j (subst (λ (x : Phi). IsListed j x.incoming) z.1.1 incoming) in
        (of_block source.0 kept.0 z.0 j source.1 z.1.0 j_kept.0, j_kept.1)

    -- a piece with the label stays, so the label is found
    piece_found : (j : Incoming) → IsFromPhi j → is_flagged flags j.from ≡ true → (b : Block) × (slice_get g.blocks (position_of g j.from) ≡ Some b)
    piece_found j o flagged =
        let k = p.cut.pieces o.from o.source o.source_got in
        let e = piece_there s part o.source.term o.source.label (map (pieced_phi s part origins o.source.label) o.source.phis) k.new k.last o.source.instrs (k.first ∷ k.rest) k.pieces o.quiet_source j.from o.origin in
        let e_kept : IsListed (kept_block flags e.0) g.blocks =
        listed_mapped (kept_block flags) (filter (λ (x : Block). is_flagged flags x.label) whole.blocks) e.0
        (to_filtered (λ (x : Block). is_flagged flags x.label) whole.blocks e.0 (p.there (Source.Of o.from) e.0 (k.first ∷ k.rest, (k.there, e.1.0))) (ap (is_flagged flags) e.1.1 ∙ flagged)) in
        let found = listed_found g (kept_block flags e.0) e_kept in
        (found.0, ap (λ (n : ℕ). slice_get g.blocks (position_of g n)) (sym e.1.1) ∙ found.1)

    at_source : (j : Incoming) → IsFromPhi j → j.value ≡ Operand.Local v → (b : Block) → slice_get g.blocks (position_of g j.from) ≡ Some b → ReachesWithout g v (position_of g j.from) → (IsListed v (values_at g (position_of g j.from)) → ⊥) → ⊥
    at_source j o value b here r none =
        let x = comes (position_of g j.from) r b here in
        let left = left_behind b x (λ l. none (subst (λ (y : Option Block). IsListed v (values_in y)) (sym here) l)) in
        let labelled : x.block.label ≡ j.from = ap (λ (y : Block). y.label) (sym x.is) ∙ label_found g j.from b here in
        let local : o.incoming.value ≡ Operand.Local v = sym o.value ∙ value in
        let end = left.ends o.from o.source o.source_got o.quiet_source (o.origin ∙ ap (λ (n : ℕ). Origin.Piece n) (sym labelled)) (p.plain o.to o.block o.phi o.incoming v o.got o.in_block o.in_phi local) in
        quiet.phi o.from end.at o.source end.spot end.holds o.to o.block o.phi o.incoming o.got o.in_block o.in_phi local (ap (position_of h) (sym o.source_label) ∙ p.cut.own o.from o.source o.source_got)

    pub phi_unused : (d : Block) (y : Phi) (j : Incoming) → IsListed d g.blocks → IsListed y d.phis → IsListed j y.incoming → j.value ≡ Operand.Local v → ReachesWithout g v (position_of g j.from) → (IsListed v (values_at g (position_of g j.from)) → ⊥) → ⊥
    phi_unused d y j in_g phi incoming value r none =
        let o = of_kept d y j in_g phi incoming in
        let b = piece_found j o.0 o.1 in
        at_source j o.0 value b.0 b.1 r none
