-- A rule that each part keeps is kept by the parts that stay.
use Rattle.std.proofs.Common.{◌≡◌, ℕ, ◌+◌, Bool, true, false, List, [], ◌∷◌, ◌++◌, length, refl, sym, ap, ◌∙◌, cond}
use Rattle.std.proofs.lemmas.Bool.{and_parts}
use Rattle.std.specs.List.{list_all}
use Rattle.std.specs.Prelude.{None, filter, map, not, ◌&&◌}
use Rattle.ir_base.specs.declared.outcome.Place.{Place}
use Rattle.pass_cleanup.specs.Cleanup.{clean_block, clean_function, is_kept_instr}
use Rattle.compiler.specs.cleanup.rules.Clean.{NamesNothingGone, calls_left, is_left, names_gone}
use Rattle.pass_proofs.proofs.ir_parts.FirstParts.{first_part_append}
use Rattle.pass_proofs.specs.ir_parts.Contents.{part_operands}
use Rattle.pass_proofs.specs.ir_parts.Parts.{Ending, Head, OfInstr, OfPhi, Part, Signature, block_parts, block_place, blocks_parts, first_part, function_place, instr_parts, instr_place, or_place, parts_of, phi_parts, place_if}
use Rattle.ir_model.specs.declared.instr.Instr.{Instr}
use Rattle.ir_model.specs.declared.instr.Phi.{Phi}
use Rattle.ir_model.specs.declared.instr.Terminator.{Terminator}
use Rattle.ir_model.specs.declared.module.Block.{Block}
use Rattle.ir_model.specs.declared.module.Function.{Function}
use Rattle.pass_proofs.proofs.rule_laws.rules.plain_rules.Places.{first_place_out, no_place_in, not_placed}
use Rattle.pass_proofs.proofs.rule_laws.rules.local_rules.Rules.{second_out as second_place_out}

-- ---- lists of parts

abbrev pub NoneIn : (Place → Part → Bool) → List (Place × Part) → Type 0
NoneIn breaks xs = first_part breaks xs ≡ None

pub head_out : (breaks : Place → Part → Bool) (p : Place) (x : Part) (xs : List (Place × Part)) → NoneIn breaks ((p, x) ∷ xs) → (breaks p x ≡ false) × NoneIn breaks xs
head_out breaks p x xs e = (not_placed (breaks p x) p (first_place_out (place_if (breaks p x) p) (first_part breaks xs) e), second_place_out (place_if (breaks p x) p) (first_part breaks xs) e)

pub head_in : (breaks : Place → Part → Bool) (p : Place) (x : Part) (xs : List (Place × Part)) → breaks p x ≡ false → NoneIn breaks xs → NoneIn breaks ((p, x) ∷ xs)
head_in breaks p x xs e h = ap (λ (b : Bool). or_place (place_if b p) (first_part breaks xs)) e ∙ h

pub parts_out : (breaks : Place → Part → Bool) (xs ys : List (Place × Part)) → NoneIn breaks (xs ++ ys) → NoneIn breaks xs × NoneIn breaks ys
parts_out breaks xs ys e =
    let both : or_place (first_part breaks xs) (first_part breaks ys) ≡ None = sym (first_part_append breaks xs ys) ∙ e in
    (first_place_out (first_part breaks xs) (first_part breaks ys) both, second_place_out (first_part breaks xs) (first_part breaks ys) both)

pub parts_in : (breaks : Place → Part → Bool) (xs ys : List (Place × Part)) → NoneIn breaks xs → NoneIn breaks ys → NoneIn breaks (xs ++ ys)
parts_in breaks xs ys h k = first_part_append breaks xs ys ∙ no_place_in (first_part breaks xs) (first_part breaks ys) h k

-- ---- what is asked of each part

-- the operands of a part that names nothing gone are left
abbrev pub AreLeft : Function → Part → Type 0
AreLeft f x = (list_all (is_left f) (part_operands x) ≡ true) × (calls_left x ≡ true)

pub left_of : (f : Function) (p : Place) (x : Part) → names_gone f p x ≡ false → AreLeft f x
left_of f p x e = and_parts (list_all (is_left f) (part_operands x)) (calls_left x) (kept (list_all (is_left f) (part_operands x) && calls_left x) e)
  where
    kept : (b : Bool) → not b ≡ false → b ≡ true
    kept true h = refl
    kept false h = absurd (cc)

pub record Carries (k : ℕ) (f : Function) (breaks now : Place → Part → Bool) : Type 0 where
  pub signature : breaks (function_place k) (Signature f) ≡ false → now (function_place k) (Signature (clean_function f)) ≡ false
  pub head : (block : ℕ) (b : Block) → breaks (block_place k block) (Head b) ≡ false → now (block_place k block) (Head (clean_block b)) ≡ false
  pub phi : (p : Place) (x : Phi) → AreLeft f (OfPhi x) → breaks p (OfPhi x) ≡ false → now p (OfPhi x) ≡ false
  pub instr : (block at to : ℕ) (i : Instr) → is_kept_instr i ≡ true → AreLeft f (OfInstr i) → breaks (instr_place k block at) (OfInstr i) ≡ false → now (instr_place k block to) (OfInstr i) ≡ false
  pub ending : (block at to : ℕ) (t : Terminator) → AreLeft f (Ending t) → breaks (instr_place k block at) (Ending t) ≡ false → now (instr_place k block to) (Ending t) ≡ false

module _ (k : ℕ) (f : Function) (breaks now : Place → Part → Bool) (h : Carries k f breaks now) where
  phis_carried : (block at : ℕ) (ps : List Phi) → NoneIn (names_gone f) (phi_parts k block at ps) → NoneIn breaks (phi_parts k block at ps) → NoneIn now (phi_parts k block at ps)
  phis_carried block at [] u e = refl
  phis_carried block at (p ∷ ps) u e =
      let gone = head_out (names_gone f) (instr_place k block at) (OfPhi p) (phi_parts k block (at + 1) ps) u in
      let broken = head_out breaks (instr_place k block at) (OfPhi p) (phi_parts k block (at + 1) ps) e in
      head_in now (instr_place k block at) (OfPhi p) (phi_parts k block (at + 1) ps)
      (h.phi (instr_place k block at) p (left_of f (instr_place k block at) (OfPhi p) gone.0) broken.0) (phis_carried block (at + 1) ps gone.1 broken.1)

  one_carried : (b : Bool) (block to : ℕ) (i : Instr) (is : List Instr) → (b ≡ true → now (instr_place k block to) (OfInstr i) ≡ false) → ((next : ℕ) → NoneIn now (instr_parts k block next is)) → NoneIn now (instr_parts k block to (cond b (i ∷ is) is))
  one_carried true block to i is here rest = head_in now (instr_place k block to) (OfInstr i) (instr_parts k block (to + 1) is) (here refl) (rest (to + 1))
  one_carried false block to i is here rest = rest to

  instrs_carried : (block at to : ℕ) (is : List Instr) → NoneIn (names_gone f) (instr_parts k block at is) → NoneIn breaks (instr_parts k block at is) → NoneIn now (instr_parts k block to (filter is_kept_instr is))
  instrs_carried block at to [] u e = refl
  instrs_carried block at to (i ∷ is) u e =
      let gone = head_out (names_gone f) (instr_place k block at) (OfInstr i) (instr_parts k block (at + 1) is) u in
      let broken = head_out breaks (instr_place k block at) (OfInstr i) (instr_parts k block (at + 1) is) e in
      one_carried (is_kept_instr i) block to i (filter is_kept_instr is)
      (λ stays. h.instr block at to i stays (left_of f (instr_place k block at) (OfInstr i) gone.0) broken.0)
      (λ next. instrs_carried block (at + 1) next is gone.1 broken.1)

  block_carried : (block : ℕ) (b : Block) → NoneIn (names_gone f) (block_parts k block b) → NoneIn breaks (block_parts k block b) → NoneIn now (block_parts k block (clean_block b))
  unfolding block_parts
  block_carried block b u e =
      let phis : List (Place × Part) = phi_parts k block 0 b.phis in
      let instrs : List (Place × Part) = instr_parts k block (length b.phis) b.instrs in
      let at : ℕ = length b.phis + length b.instrs in
      let ending : List (Place × Part) = (instr_place k block at, Ending b.term) ∷ [] in
      let to : ℕ = length b.phis + length (filter is_kept_instr b.instrs) in
      let kept : List (Place × Part) = instr_parts k block (length b.phis) (filter is_kept_instr b.instrs) in
      let last : List (Place × Part) = (instr_place k block to, Ending b.term) ∷ [] in
      let u1 = head_out (names_gone f) (block_place k block) (Head b) (phis ++ (instrs ++ ending)) u in
      let u2 = parts_out (names_gone f) phis (instrs ++ ending) u1.1 in
      let u3 = parts_out (names_gone f) instrs ending u2.1 in
      let u4 = head_out (names_gone f) (instr_place k block at) (Ending b.term) [] u3.1 in
      let e1 = head_out breaks (block_place k block) (Head b) (phis ++ (instrs ++ ending)) e in
      let e2 = parts_out breaks phis (instrs ++ ending) e1.1 in
      let e3 = parts_out breaks instrs ending e2.1 in
      let e4 = head_out breaks (instr_place k block at) (Ending b.term) [] e3.1 in
      head_in now (block_place k block) (Head (clean_block b)) (phis ++ (kept ++ last)) (h.head block b e1.0)
      (parts_in now phis (kept ++ last) (phis_carried block 0 b.phis u2.0 e2.0)
      (parts_in now kept last (instrs_carried block (length b.phis) (length b.phis) b.instrs u3.0 e3.0)
      (head_in now (instr_place k block to) (Ending b.term) [] (h.ending block at to b.term (left_of f (instr_place k block at) (Ending b.term) u4.0) e4.0) refl)))

  blocks_carried : (block : ℕ) (bs : List Block) → NoneIn (names_gone f) (blocks_parts k block bs) → NoneIn breaks (blocks_parts k block bs) → NoneIn now (blocks_parts k block (map clean_block bs))
  blocks_carried block [] u e = refl
  blocks_carried block (b ∷ bs) u e =
      let gone = parts_out (names_gone f) (block_parts k block b) (blocks_parts k (block + 1) bs) u in
      let broken = parts_out breaks (block_parts k block b) (blocks_parts k (block + 1) bs) e in
      parts_in now (block_parts k block (clean_block b)) (blocks_parts k (block + 1) (map clean_block bs)) (block_carried block b gone.0 broken.0) (blocks_carried (block + 1) bs gone.1 broken.1)

  pub carried : NamesNothingGone k f → NoneIn breaks (parts_of k f) → NoneIn now (parts_of k (clean_function f))
  carried u e =
      let gone = head_out (names_gone f) (function_place k) (Signature f) (blocks_parts k 0 f.blocks) u in
      let broken = head_out breaks (function_place k) (Signature f) (blocks_parts k 0 f.blocks) e in
      head_in now (function_place k) (Signature (clean_function f)) (blocks_parts k 0 (map clean_block f.blocks)) (h.signature broken.0) (blocks_carried 0 f.blocks gone.1 broken.1)
