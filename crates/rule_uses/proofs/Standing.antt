-- The walk through the text leaves out only uses that aren't undefined.
use Rattle.std.proofs.Common.{◌≡◌, ℕ, zero, suc, ◌+◌, ◌<◌, ◌≤◌, ◌⊎◌, Bool, true, false, List, [], ◌∷◌, ◌++◌, length, map, replicate, Some, None, Option, refl, sym, ap, ◌∙◌, subst, ⊎_elim, inl, inr, arith, eq-eqb}
use Rattle.std.specs.Prelude.{IsTrue, option_to_list, slice_get, slice_set, ◌==◌, ◌||◌}
use Rattle.std.proofs.lemmas.Bool.{cases_eq, eqb-true, false≢true}
use Rattle.std.proofs.lemmas.List.{length-replicate, length-set}
use Rattle.flow_blocks.specs.Words.{AreMarked}
use Rattle.ir_base.specs.declared.outcome.Place.{Place}
use Rattle.rule_uses.specs.Questions.{IsOpen}
use Rattle.rule_uses.specs.Scan.{is_at, is_known, noted, noted_block, noted_instrs, noted_phis, open_at, open_block, open_blocks, open_in, open_incoming, open_instrs, open_phis, open_use, or_false, use_unless}
use Rattle.rule_uses.specs.Undefined.{IsUndefined, params_of}
use Rattle.rule_uses.specs.Uses.{Use, block_uses, block_values, blocks_uses, incoming_use, incoming_uses, instr_uses, local_of, locals_in, made_by_instrs, made_by_phis, phi_uses, phi_values, use_of, uses_at, uses_of}
use Rattle.rule_uses.specs.declared.open_use.OpenUse.{OpenUse}
use Rattle.flow_solver.proofs.Lists.{listed_front, set_cases, set_here, set_other}
use Rattle.flow_solver.specs.Paths.{IsListed}
use Rattle.ir_parts.specs.Contents.{ending_operands, instr_operands, result_of}
use Rattle.ir_parts.specs.Parts.{instr_place}
use Rattle.ir_model.specs.Names.{position_of}
use Rattle.ir_model.specs.declared.instr.Incoming.{Incoming}
use Rattle.ir_model.specs.declared.instr.Instr.{Instr}
use Rattle.ir_model.specs.declared.instr.Phi.{Phi}
use Rattle.ir_model.specs.declared.module.Block.{Block}
use Rattle.ir_model.specs.declared.module.Function.{Function}
use Rattle.flow_blocks.proofs.run_step.LabelPositions.{slice_get-replicate}

-- ---- what was made last where

-- the table says of the values with names which of them the block has made
pub record Shows (n : ℕ) (last : List (Option ℕ)) (block : ℕ) (before : List ℕ) : Type 0 where
  pub last_length : length last ≡ n
  pub made : (v : ℕ) → slice_get last v ≡ Some (Some block) → IsListed v before
  pub shown : (v : ℕ) → v < n → IsListed v before → slice_get last v ≡ Some (Some block)
  pub earlier : (v at : ℕ) → slice_get last v ≡ Some (Some at) → at ≤ block

same_number : (a b : ℕ) → Some a ≡ Some b → a ≡ b
same_number a b e = cc

one_shown : (n r block : ℕ) (last : List (Option ℕ)) (before : List ℕ) → Shows n last block before → Shows n (slice_set last r (Some block)) block (r ∷ before)
one_shown n r block last before s = record {
  last_length = length-set last r (Some block) ∙ s.last_length;
  made = λ v e. ⊎_elim (λ here. inl here.0) (λ there. inr (s.made v there.0)) (set_cases last r v (Some block) (Some block) e);
  shown = λ v lt h. ⊎_elim (at_it v lt) (λ other. set_other last r v (Some block) other ∙ ⊎_elim (λ same. absurd (other same)) (λ old. s.shown v lt old) h) (cases_eq v r);
  earlier = λ v at e. ⊎_elim (λ here. let same = same_number at block here.1 in omega (arith, same)) (λ there. s.earlier v at there.0) (set_cases last r v (Some block) (Some at) e);
}
  where
    at_it : (v : ℕ) → v < n → v ≡ r → slice_get (slice_set last r (Some block)) v ≡ Some (Some block)
    at_it v lt same =
        let len = s.last_length in
        let within : r < length last = omega (arith, lt, same, len) in
        ap (slice_get (slice_set last r (Some block))) same ∙ set_here last r (Some block) within

result_shown : (n block : ℕ) (last : List (Option ℕ)) (before : List ℕ) (r : Option ℕ) → Shows n last block before → Shows n (noted last block r) block (option_to_list r ++ before)
result_shown n block last before None s = s
result_shown n block last before (Some v) s = one_shown n v block last before s

phis_shown : (n block : ℕ) (last : List (Option ℕ)) (before : List ℕ) (ps : List Phi) → Shows n last block before → Shows n (noted_phis last block ps) block (made_by_phis before ps)
phis_shown n block last before [] s = s
phis_shown n block last before (p ∷ ps) s = phis_shown n block (slice_set last p.result (Some block)) (p.result ∷ before) ps (one_shown n p.result block last before s)

instrs_shown : (n block : ℕ) (last : List (Option ℕ)) (before : List ℕ) (is : List Instr) → Shows n last block before → Shows n (noted_instrs last block is) block (made_by_instrs before is)
instrs_shown n block last before [] s = s
instrs_shown n block last before (i ∷ is) s =
    instrs_shown n block (noted last block (result_of i)) (option_to_list (result_of i) ++ before) is (result_shown n block last before (result_of i) s)

nothing_shown : (n : ℕ) → Shows n (replicate n None) 0 []
nothing_shown n = record {
  last_length = length-replicate n None;
  made = λ v e. absurd (none v 0 e);
  shown = λ v lt h. absurd h;
  earlier = λ v at e. absurd (none v at e);
}
  where
    none : (v at : ℕ) → slice_get (replicate n None) v ≡ Some (Some at) → ⊥
    none v at e = let is : Some at ≡ None = slice_get-replicate n v None (Some at) e in cc

next_shown : (n block : ℕ) (last : List (Option ℕ)) (before : List ℕ) → Shows n last block before → Shows n last (block + 1) []
next_shown n block last before s = record {
  last_length = s.last_length;
  made = λ v e. let le = s.earlier v (block + 1) e in absurd (omega (arith, le));
  shown = λ v lt h. absurd h;
  earlier = λ v at e. let le = s.earlier v at e in omega (arith, le);
}

-- ---- open uses stand for uses

-- each use that is undefined has its open use, and these are undefined together
pub data Stands (f : Function) : List Use → List OpenUse → Type 0 where
  Nothing : Stands f [] []
  LeftOut : (u : Use) (us : List Use) (os : List OpenUse) → (IsUndefined f u → ⊥) → Stands f us os → Stands f (u ∷ us) os
  Taken : (u : Use) (us : List Use) (o : OpenUse) (os : List OpenUse) → o.place ≡ u.place → (IsUndefined f u → IsOpen f o) → (IsOpen f o → IsUndefined f u) → Stands f us os → Stands f (u ∷ us) (o ∷ os)

stands_append : (f : Function) (us us2 : List Use) (os os2 : List OpenUse) → Stands f us os → Stands f us2 os2 → Stands f (us ++ us2) (os ++ os2)
stands_append f _ us2 _ os2 Nothing t = t
stands_append f _ us2 _ os2 (LeftOut u us os never s) t = LeftOut u (us ++ us2) (os ++ os2) never (stands_append f us us2 os os2 s t)
stands_append f _ us2 _ os2 (Taken u us o os p to from s) t = Taken u (us ++ us2) o (os ++ os2) p to from (stands_append f us us2 os os2 s t)

abbrev pub AreWithin : ℕ → List OpenUse → Type 0
AreWithin n os = (o : OpenUse) → IsListed o os → o.value < n

listed_back : {X : Type 0} (y : X) (xs zs : List X) → IsListed y zs → IsListed y (xs ++ zs)
listed_back y [] zs h = h
listed_back y (x ∷ xs) zs h = inr (listed_back y xs zs h)

front_within : (n : ℕ) (xs ys : List OpenUse) → AreWithin n (xs ++ ys) → AreWithin n xs
front_within n xs ys w o h = w o (listed_front o xs ys h)

back_within : (n : ℕ) (xs ys : List OpenUse) → AreWithin n (xs ++ ys) → AreWithin n ys
back_within n xs ys w o h = w o (listed_back o xs ys h)

-- ---- tests

or_true : (a b : Bool) → (a || b) ≡ true → (a ≡ true) ⊎ (b ≡ true)
or_true true b e = inl refl
or_true false b e = inr e

or_right : (a b : Bool) → b ≡ true → (a || b) ≡ true
or_right true b e = refl
or_right false b e = e

or_left : (a b : Bool) → a ≡ true → (a || b) ≡ true
or_left true b e = refl
or_left false b e = absurd (false≢true e)

mark_true : (o : Option Bool) → or_false o ≡ true → o ≡ Some true
mark_true None e = absurd (false≢true e)
mark_true (Some b) e = ap (λ (x : Bool). Some x) e

at_true : (o : Option (Option ℕ)) (block : ℕ) → is_at o block ≡ true → o ≡ Some (Some block)
at_true None block e = absurd (false≢true e)
at_true (Some None) block e = absurd (false≢true e)
at_true (Some (Some at)) block e = ap (λ (x : ℕ). Some (Some x)) (eqb-true at block e)

module _ (f : Function) (n : ℕ) (params : List Bool) (marked : AreMarked n (params_of f) params) where
  is_param : (v : ℕ) → or_false (slice_get params v) ≡ true → IsListed v (params_of f)
  is_param v e = marked.marks_listed v (mark_true (slice_get params v) e)

  param_true : (v : ℕ) → v < n → IsListed v (params_of f) → or_false (slice_get params v) ≡ true
  param_true v lt h = ap or_false (marked.is_marked v lt h)

  -- ---- uses inside a block

  inside_stands : (last : List (Option ℕ)) (block : ℕ) (before : List ℕ) → Shows n last block before → (p : Place) (v : ℕ) (b : Bool) → is_known params last block v ≡ b →
      AreWithin n (use_unless b (open_use p block false v)) → Stands f (use_of p block before v ∷ []) (use_unless b (open_use p block false v))
  inside_stands last block before s p v true e w =
      LeftOut (use_of p block before v) [] []
      (λ u. ⊎_elim (λ param. u.no_param (is_param v param)) (λ here. u.not_before (s.made v (at_true (slice_get last v) block here))) (or_true (or_false (slice_get params v)) (is_at (slice_get last v) block) e))
      Nothing
  inside_stands last block before s p v false e w =
      Taken (use_of p block before v) [] (open_use p block false v) [] refl
      (λ u. record { reaches = u.reaches; not_made = λ at_end. absurd (false≢true at_end) })
      (λ o. record {
        reaches = o.reaches;
        not_before = λ h. false≢true (sym e ∙ or_right (or_false (slice_get params v)) (is_at (slice_get last v) block) (ap (λ (x : Option (Option ℕ)). is_at x block) (s.shown v lt h) ∙ eq-eqb block block refl));
        no_param = λ h. false≢true (sym e ∙ or_left (or_false (slice_get params v)) (is_at (slice_get last v) block) (param_true v lt h));
      })
      Nothing
    where
      lt : v < n
      lt = w (open_use p block false v) (inl refl)

  part_stands : (last : List (Option ℕ)) (block : ℕ) (before : List ℕ) → Shows n last block before → (p : Place) (vs : List ℕ) →
      AreWithin n (open_at params last p block vs) → Stands f (map (use_of p block before) vs) (open_at params last p block vs)
  part_stands last block before s p [] w = Nothing
  part_stands last block before s p (v ∷ vs) w =
      let here : List OpenUse = use_unless (is_known params last block v) (open_use p block false v) in
      stands_append f (use_of p block before v ∷ []) (map (use_of p block before) vs) here (open_at params last p block vs)
      (inside_stands last block before s p v (is_known params last block v) refl (front_within n here (open_at params last p block vs) w))
      (part_stands last block before s p vs (back_within n here (open_at params last p block vs) w))

  instrs_stand : (func block at : ℕ) (last : List (Option ℕ)) (before : List ℕ) (is : List Instr) → Shows n last block before →
      AreWithin n (open_instrs params last func block at is) → Stands f (instr_uses func block at before is) (open_instrs params last func block at is)
  instrs_stand func block at last before [] s w = Nothing
  instrs_stand func block at last before (i ∷ is) s w =
      let here : List OpenUse = open_at params last (instr_place func block at) block (locals_in (instr_operands i)) in
      let rest : List OpenUse = open_instrs params (noted last block (result_of i)) func block (at + 1) is in
      stands_append f (uses_at (instr_place func block at) block before (instr_operands i)) (instr_uses func block (at + 1) (option_to_list (result_of i) ++ before) is) here rest
      (part_stands last block before s (instr_place func block at) (locals_in (instr_operands i)) (front_within n here rest w))
      (instrs_stand func block (at + 1) (noted last block (result_of i)) (option_to_list (result_of i) ++ before) is (result_shown n block last before (result_of i) s) (back_within n here rest w))

  -- ---- uses at ends

  end_stands : (p : Place) (i : Incoming) (v : ℕ) (b : Bool) → or_false (slice_get params v) ≡ b →
      AreWithin n (use_unless b (open_use p (position_of f i.from) true v)) → Stands f (incoming_use f p i v ∷ []) (use_unless b (open_use p (position_of f i.from) true v))
  end_stands p i v true e w = LeftOut (incoming_use f p i v) [] [] (λ u. u.no_param (is_param v e)) Nothing
  end_stands p i v false e w =
      Taken (incoming_use f p i v) [] (open_use p (position_of f i.from) true v) [] refl
      (λ u. record { reaches = u.reaches; not_made = λ at_end. u.not_before })
      (λ o. record { reaches = o.reaches; not_before = o.not_made refl; no_param = λ h. false≢true (sym e ∙ param_true v (w (open_use p (position_of f i.from) true v) (inl refl)) h) })
      Nothing

  value_stands : (p : Place) (i : Incoming) (x : Option ℕ) → AreWithin n (open_in f params p i.from x) → Stands f (map (incoming_use f p i) (option_to_list x)) (open_in f params p i.from x)
  value_stands p i None w = Nothing
  value_stands p i (Some v) w = end_stands p i v (or_false (slice_get params v)) refl w

  incoming_stand : (p : Place) (is : List Incoming) → AreWithin n (open_incoming f params p is) → Stands f (incoming_uses f p is) (open_incoming f params p is)
  incoming_stand p [] w = Nothing
  incoming_stand p (i ∷ is) w =
      let here : List OpenUse = open_in f params p i.from (local_of i.value) in
      stands_append f (map (incoming_use f p i) (option_to_list (local_of i.value))) (incoming_uses f p is) here (open_incoming f params p is)
      (value_stands p i (local_of i.value) (front_within n here (open_incoming f params p is) w))
      (incoming_stand p is (back_within n here (open_incoming f params p is) w))

  phis_stand : (func block at : ℕ) (ps : List Phi) → AreWithin n (open_phis f params func block at ps) → Stands f (phi_uses f func block at ps) (open_phis f params func block at ps)
  phis_stand func block at [] w = Nothing
  phis_stand func block at (p ∷ ps) w =
      let here : List OpenUse = open_incoming f params (instr_place func block at) p.incoming in
      stands_append f (incoming_uses f (instr_place func block at) p.incoming) (phi_uses f func block (at + 1) ps) here (open_phis f params func block (at + 1) ps)
      (incoming_stand (instr_place func block at) p.incoming (front_within n here (open_phis f params func block (at + 1) ps) w))
      (phis_stand func block (at + 1) ps (back_within n here (open_phis f params func block (at + 1) ps) w))

  -- ---- blocks

  block_stands : (func block : ℕ) (last : List (Option ℕ)) (b : Block) → Shows n last block [] →
      AreWithin n (open_block f params last func block b) → Stands f (block_uses f func block b) (open_block f params last func block b)
  unfolding block_uses open_block
  block_stands func block last b s w =
      let one : List OpenUse = open_phis f params func block 0 b.phis in
      let two : List OpenUse = open_instrs params (noted_phis last block b.phis) func block (length b.phis) b.instrs in
      let end_place : Place = instr_place func block (length b.phis + length b.instrs) in
      let three : List OpenUse = open_at params (noted_block last block b) end_place block (locals_in (ending_operands b.term)) in
      let after_phis : Shows n (noted_phis last block b.phis) block (phi_values b) = phis_shown n block last [] b.phis s in
      let after_all : Shows n (noted_block last block b) block (block_values b) = instrs_shown n block (noted_phis last block b.phis) (phi_values b) b.instrs after_phis in
      let rest_within : AreWithin n (two ++ three) = back_within n one (two ++ three) w in
      stands_append f (phi_uses f func block 0 b.phis) (instr_uses func block (length b.phis) (phi_values b) b.instrs ++ uses_at end_place block (block_values b) (ending_operands b.term)) one (two ++ three)
      (phis_stand func block 0 b.phis (front_within n one (two ++ three) w))
      (stands_append f (instr_uses func block (length b.phis) (phi_values b) b.instrs) (uses_at end_place block (block_values b) (ending_operands b.term)) two three
      (instrs_stand func block (length b.phis) (noted_phis last block b.phis) (phi_values b) b.instrs after_phis (front_within n two three rest_within))
      (part_stands (noted_block last block b) block (block_values b) after_all end_place (locals_in (ending_operands b.term)) (back_within n two three rest_within)))

  block_shown : (block : ℕ) (last : List (Option ℕ)) (b : Block) → Shows n last block [] → Shows n (noted_block last block b) (block + 1) []
  block_shown block last b s =
      next_shown n block (noted_block last block b) (block_values b)
      (instrs_shown n block (noted_phis last block b.phis) (phi_values b) b.instrs (phis_shown n block last [] b.phis s))

  blocks_stand : (func block : ℕ) (last : List (Option ℕ)) (bs : List Block) → Shows n last block [] →
      AreWithin n (open_blocks f params last func block bs) → Stands f (blocks_uses f func block bs) (open_blocks f params last func block bs)
  blocks_stand func block last [] s w = Nothing
  blocks_stand func block last (b ∷ bs) s w =
      let here : List OpenUse = open_block f params last func block b in
      let rest : List OpenUse = open_blocks f params (noted_block last block b) func (block + 1) bs in
      stands_append f (block_uses f func block b) (blocks_uses f func (block + 1) bs) here rest
      (block_stands func block last b s (front_within n here rest w))
      (blocks_stand func (block + 1) (noted_block last block b) bs (block_shown block last b s) (back_within n here rest w))

  pub all_stand : (func : ℕ) → AreWithin n (open_blocks f params (replicate n None) func 0 f.blocks) → Stands f (uses_of func f) (open_blocks f params (replicate n None) func 0 f.blocks)
  all_stand func w = blocks_stand func 0 (replicate n None) f.blocks (nothing_shown n) w
