-- A function whose blocks' instructions are turned, with no new name, is one into which nothing is put.
use Rattle.std.proofs.Common.{◌≡◌, ℕ, ◌+◌, ◌<◌, ◌≤◌, Bool, true, false, List, [], ◌∷◌, ◌++◌, length, refl, arith}
use Rattle.std.specs.Prelude.{filter, map, ◌==◌, if◌then◌else◌}
use Rattle.pass_fetch_proof.specs.addresses.rules.Addresses.{turning_weaving}
use Rattle.pass_edges_proof.specs.rule_uses.Uses.{block_values, phi_values, values_at}
use Rattle.pass_edges_proof.proofs.rule_laws.rules.source_rules.Locals.{block_names, made_by}
use Rattle.pass_edges_proof.proofs.ir_laws.paths.source_rules.Locals.{listed_right}
use Rattle.pass_edges_proof.proofs.ir_laws.facts.Lists.{phi_names, row_of, times_joined}
use Rattle.pass_edges_proof.specs.rule_laws.rules.source_rules.Named.{HasTabledLocals}
use Rattle.pass_addresses.specs.Placing.{turned_block, turned_function}
use Rattle.pass_edges_proof.specs.ir_parts.Contents.{ending_operands, instr_operands}
use Rattle.pass_edges_proof.specs.rule_uses.Undefined.{params_of}
use Rattle.ir_model.specs.Names.{position_of}
use Rattle.ir_model.specs.declared.instr.Incoming.{Incoming}
use Rattle.ir_model.specs.declared.instr.Instr.{Instr}
use Rattle.ir_model.specs.declared.instr.Phi.{Phi}
use Rattle.ir_model.specs.declared.module.Block.{Block}
use Rattle.ir_model.specs.declared.module.Function.{Function}
use Rattle.ir_model.specs.declared.module.Module.{Module}
use Rattle.ir_model.specs.declared.operand.Operand.{Operand}
use Rattle.pass_edges_proof.specs.run_laws.changed.Changed.{Each}
use Rattle.pass_edges_proof.proofs.rule_laws.rules.woven_rules.Pieces.{still_stays}
use Rattle.pass_edges_proof.proofs.rule_laws.rules.woven_rules.Once.{names_below, times_block}
use Rattle.pass_edges_proof.proofs.ir_laws.paths.woven_rules.Once.{times_none}
use Rattle.pass_edges_proof.proofs.ir_laws.facts.Members.{each_turns}
use Rattle.pass_edges_proof.proofs.rule_laws.rules.woven_rules.Operands.{term_itself}
use Rattle.pass_edges_proof.specs.rule_laws.rules.woven_rules.Blocks.{AreWoven, AreWovenBlocks, Done, Gone, IsWoven, MayGo, NoBlock, OneBlock, Remain, times_made}
use Rattle.pass_edges_proof.specs.ir_laws.facts.woven_rules.Pairs.{Empty, Pair, Pairwise, one_if, times}
use Rattle.pass_edges_proof.specs.rule_laws.rules.woven_rules.Parts.{IncomingStays, PhiStays}
use Rattle.pass_edges_proof.specs.rule_laws.rules.woven_rules.Weaving.{IsInPlace, Same, Weaving, goes_in}

-- ---- what stays as it is

module _ (w : Weaving) (f : Function) where
  -- an instruction goes, or stays as it is
  pub record MayFilter (keep : Instr → Bool) (i : Instr) : Type 0 where
    pub out : keep i ≡ false → MayGo w i
    pub kept : keep i ≡ true → Each (λ (x : Operand). goes_in w x ≡ false) (instr_operands i)

  pub filter_woven : (m : Module) (keep : Instr → Bool) (block : ℕ) (made : List ℕ) (is : List Instr) → Each (MayFilter keep) is → AreWoven w m f block made is (filter keep is)
  filter_woven m keep block made [] h = Done made
  filter_woven m keep block made (i ∷ is) h = on (keep i) refl (λ now. filter_woven m keep block now is h.1)
    where
      on : (b : Bool) → keep i ≡ b → ((now : List ℕ) → AreWoven w m f block now is (filter keep is)) → AreWoven w m f block made (i ∷ is) (if b then i ∷ filter keep is else filter keep is)
      on true e rest = Remain made i i is (filter keep is) (still_stays w f made i (h.0.kept e)) (rest (made_by i ++ made))
      on false e rest = Gone made i is (filter keep is) (h.0.out e) (rest made)

pub filter_fewer : (keep : Instr → Bool) (n : ℕ) (is : List Instr) → times n (row_of made_by (filter keep is)) ≤ times n (row_of made_by is)
filter_fewer keep n [] = omega arith
filter_fewer keep n (i ∷ is) = on (keep i) (filter_fewer keep n is)
  where
    on : (b : Bool) → times n (row_of made_by (filter keep is)) ≤ times n (row_of made_by is) → times n (row_of made_by (if b then i ∷ filter keep is else filter keep is)) ≤ times n (made_by i ++ row_of made_by is)
    on true rest =
        let a : times n (made_by i ++ row_of made_by (filter keep is)) ≡ times n (made_by i) + times n (row_of made_by (filter keep is)) = times_joined n (made_by i) (row_of made_by (filter keep is)) in
        let b : times n (made_by i ++ row_of made_by is) ≡ times n (made_by i) + times n (row_of made_by is) = times_joined n (made_by i) (row_of made_by is) in
        omega (arith, a, b, rest)
    on false rest =
        let b : times n (made_by i ++ row_of made_by is) ≡ times n (made_by i) + times n (row_of made_by is) = times_joined n (made_by i) (row_of made_by is) in
        omega (arith, b, rest)

-- ---- the function

module _ (m : Module) (k : ℕ) (f : Function) (tabled : HasTabledLocals k f) (goes : ℕ → Bool) (T : List Instr → List Instr) (fewer : (n : ℕ) (is : List Instr) → times n (row_of made_by (T is)) ≤ times n (row_of made_by is)) where
  abbrev W : Weaving
  W = turning_weaving f goes

  abbrev G : Function
  G = turned_function T f

  pub record TurnsWell (b : Block) : Type 0 where
    pub instrs : (block : ℕ) (made : List ℕ) → AreWoven W m f block made b.instrs (T b.instrs)
    pub phis : Each (λ (p : Phi). Each (λ (i : Incoming). goes_in W i.value ≡ false) p.incoming) b.phis
    pub term : Each (λ (x : Operand). goes_in W x ≡ false) (ending_operands b.term)

  abbrev InPlace : ℕ → Operand → Operand → Type 0
  InPlace from = IsInPlace W f (values_at G (position_of G from))

  incoming_still : (is : List Incoming) → Each (λ (i : Incoming). goes_in W i.value ≡ false) is → Pairwise (IncomingStays InPlace) is is
  incoming_still [] h = Empty
  incoming_still (i ∷ is) h = Pair i i is is (record { from = refl; value = Same i.value h.0 }) (incoming_still is h.1)

  phis_still : (ps : List Phi) → Each (λ (p : Phi). Each (λ (i : Incoming). goes_in W i.value ≡ false) p.incoming) ps → Pairwise (PhiStays InPlace) ps ps
  phis_still [] h = Empty
  phis_still (p ∷ ps) h = Pair p p ps ps (record { result = refl; ty = refl; incoming = incoming_still p.incoming h.0 }) (phis_still ps h.1)

  blocks_turned : (at : ℕ) (bs : List Block) → Each TurnsWell bs → AreWovenBlocks W m f G at bs (map (turned_block T) bs)
  blocks_turned at [] h = NoBlock at
  blocks_turned at (b ∷ bs) h =
      OneBlock at b (turned_block T b) bs (map (turned_block T) bs)
      (record {
        label = refl;
        phis = phis_still b.phis h.0.phis;
        instrs = h.0.instrs at (phi_values b);
        term = term_itself (IsInPlace W f (block_values (turned_block T b))) b.term (each_turns (λ (x : Operand). goes_in W x ≡ false) (λ (x : Operand). IsInPlace W f (block_values (turned_block T b)) x x) (λ x e. Same x e) (ending_operands b.term) h.0.term);
      })
      (blocks_turned (at + 1) bs h.1)

  none_made : (n : ℕ) (bs : List Block) → times n (row_of block_names bs) ≡ 0 → times_made n (map (turned_block T) bs) ≤ 1
  none_made n [] e = omega arith
  none_made n (b ∷ bs) e =
      let c : Block = turned_block T b in
      let a : times n (block_names b ++ row_of block_names bs) ≡ times n (block_names b) + times n (row_of block_names bs) = times_joined n (block_names b) (row_of block_names bs) in
      let rest : times n (row_of block_names bs) ≡ 0 = omega (arith, a, e) in
      let more : times_made n (map (turned_block T) bs) ≤ 1 = none_made n bs rest in
      let d : times n (phi_names b.phis ++ row_of made_by b.instrs) ≡ times n (phi_names b.phis) + times n (row_of made_by b.instrs) = times_joined n (phi_names b.phis) (row_of made_by b.instrs) in
      let whole : one_if (b.label == n) + times n (phi_names b.phis ++ row_of made_by b.instrs) ≡ times n (block_names b) = refl in
      let less : times n (row_of made_by (T b.instrs)) ≤ times n (row_of made_by b.instrs) = fewer n b.instrs in
      let here : times n (block_values c) ≡ times n (phi_names b.phis) + times n (row_of made_by (T b.instrs)) = times_block n c in
      omega (arith, a, e, more, d, whole, less, here)

  pub turned_woven : Each TurnsWell f.blocks → IsWoven W m f G
  turned_woven h =
      record {
        name = refl;
        result = refl;
        params = refl;
        coroutine = refl;
        first = refl;
        after = refl;
        grows = omega arith;
        blocks = blocks_turned 0 f.blocks h;
        fronts = tt;
        once = λ n low. none_made n f.blocks (times_none n (row_of block_names f.blocks) (λ l. let high : n < length f.names = names_below k f tabled n (listed_right n (params_of f) (row_of block_names f.blocks) l) in absurd (omega (arith, high, low))));
      }
