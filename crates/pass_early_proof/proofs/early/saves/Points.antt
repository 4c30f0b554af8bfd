-- Where the instructions that pass a test are when saves are written out.
use Rattle.std.proofs.Common.{◌≡◌, ℕ, suc, ◌+◌, ◌≤◌, Bool, true, false, List, [], ◌∷◌, ◌++◌, length, refl, sym, ap, ◌∙◌, arith}
use Rattle.std.proofs.lemmas.List.{map-append}
use Rattle.std.specs.Prelude.{Some, Option, map, slice_get, if◌then◌else◌}
use Rattle.pass_early.specs.Early.{save_call, saved}
use Rattle.ir_model.specs.declared.instr.Instr.{Instr}
use Rattle.ir_model.specs.declared.module.Block.{Block}
use Rattle.rule_laws.specs.ir_paths.Windows.{points_from, points_in}
use Rattle.rule_laws.specs.ir_paths.declared.point.Point.{Point}
use Rattle.pass_early_proof.specs.early.saves.SavesWritten.{behind_save, behind_saves, is_bare, saved_blocks, with_save, with_saves}
pub use Rattle.rule_laws.specs.run_laws.changed.Changed.{Each}
use Rattle.rule_laws.specs.ir_laws.facts.expanded.Spots.{instrs_in}
use Rattle.pass_early_proof.specs.early.saves.Spots.{number_of_block, own_saves, place_in}
use Rattle.rule_laws.proofs.ir_laws.facts.Lists.{map_map, map_same, places}
use Rattle.rule_laws.proofs.ir_laws.paths.expanded.Points.{point, points_are, shift_in, shifted}

pub points_append : (test : Instr → Bool) (block at : ℕ) (is js : List Instr) → points_from test block at (is ++ js) ≡ points_from test block at is ++ points_from test block (at + length is) js
points_append test block at [] js = let z : at ≡ at + 0 = omega arith in ap (λ (k : ℕ). points_from test block k js) z
points_append test block at (i ∷ is) js =
    on (test i)
    (points_append test block (suc at) is js ∙ ap (λ (k : ℕ). points_from test block (suc at) is ++ points_from test block k js) (omega arith))
  where
    on : (b : Bool) → points_from test block (suc at) (is ++ js) ≡ points_from test block (suc at) is ++ points_from test block (at + suc (length is)) js → (if b then point block at ∷ points_from test block (suc at) (is ++ js) else points_from test block (suc at) (is ++ js)) ≡ (if b then point block at ∷ points_from test block (suc at) is else points_from test block (suc at) is) ++ points_from test block (at + suc (length is)) js
    on true e = ap (λ (ps : List Point). point block at ∷ ps) e
    on false e = e

-- ---- a test before, and one behind

module _ (c : Bool) (t u : Instr → Bool) (offset : Option Instr → ℕ) (least : ℕ) (P : Instr → Type 0) where
  -- what passes of what an instruction becomes, is at its offset, where the instruction passes
  abbrev pub AreGroups : Type 0
  AreGroups = (n : ℕ) (i : Instr) → least ≤ n → P i → (block at : ℕ) → points_from u block at (with_save c n i) ≡ (if t i then record { block = block; at = at + (0 + offset (Some i)) } ∷ [] else [])

  -- where that is of an instruction of a block
  abbrev spot : ℕ → List Instr → ℕ → ℕ
  spot n is k = place_in c k n is + offset (slice_get is k)

  more : (n : ℕ) (i : Instr) → least ≤ n → least ≤ behind_save c n i
  more n i le = on (is_bare c i)
    where
      on : (b : Bool) → least ≤ (if b then n + 1 else n)
      on true = omega arith
      on false = le

  pub more_behind : (n : ℕ) (is : List Instr) → least ≤ n → least ≤ behind_saves c n is
  more_behind n [] le = le
  more_behind n (i ∷ is) le = more_behind (behind_save c n i) is (more n i le)

  spots_of : AreGroups → (is : List Instr) → Each P is → (n : ℕ) → least ≤ n → (block at : ℕ) → points_from u block at (with_saves c n is) ≡ map (λ k. point block (at + spot n is k)) (places t is)
  spots_of groups [] h n le block at = refl
  spots_of groups (i ∷ is) h n le block at =
      points_append u block at (with_save c n i) (with_saves c (behind_save c n i) is)
      ∙ (λ j. groups n i le h.0 block at j ++ spots_of groups is h.1 (behind_save c n i) (more n i le) block (at + length (with_save c n i)) j)
      ∙ on (t i)
    where
      next : (k : ℕ) → (at + length (with_save c n i)) + spot (behind_save c n i) is k ≡ at + spot n (i ∷ is) (suc k)
      next k = omega arith

      rest : map (λ k. point block ((at + length (with_save c n i)) + spot (behind_save c n i) is k)) (places t is) ≡ map (λ k. point block (at + spot n (i ∷ is) k)) (map suc (places t is))
      rest = map_same _ _ (λ k. ap (point block) (next k)) (places t is) ∙ sym (map_map (λ k. point block (at + spot n (i ∷ is) k)) suc (places t is))

      on : (b : Bool) → (if b then point block (at + (0 + offset (Some i))) ∷ [] else []) ++ map (λ k. point block ((at + length (with_save c n i)) + spot (behind_save c n i) is k)) (places t is) ≡ map (λ k. point block (at + spot n (i ∷ is) k)) (if b then 0 ∷ map suc (places t is) else map suc (places t is))
      on true = ap (λ (ps : List Point). point block (at + (0 + offset (Some i))) ∷ ps) rest
      on false = rest

  -- the same in all blocks
  abbrev pub spot_in : ℕ → List Block → Point → Point
  spot_in n bs p =
      record {
        block = p.block;
        at = place_in c p.at (number_of_block c p.block n bs) (instrs_in (slice_get bs p.block)) + offset (slice_get (instrs_in (slice_get bs p.block)) p.at);
      }

  abbrev PsIn : List Block → Type 0
  PsIn bs = Each (λ (b : Block). Each P b.instrs) bs

  pub points_moved : AreGroups → (bs : List Block) → PsIn bs → (n : ℕ) → least ≤ n → points_in u 0 (saved_blocks c n bs) ≡ map (spot_in n bs) (points_in t 0 bs)
  points_moved groups [] h n le = refl
  points_moved groups (b ∷ bs) h n le =
      (λ j. first j ++ rest (points_moved groups bs h.1 (behind_saves c n b.instrs) (more_behind n b.instrs le)) j)
      ∙ sym (map-append (spot_in n (b ∷ bs)) (points_from t 0 0 b.instrs) (points_in t 1 bs))
    where
      none : (k : ℕ) → 0 + spot n b.instrs k ≡ spot n b.instrs (0 + k)
      none k = let z : 0 + k ≡ k = omega arith in ap (λ (x : ℕ). 0 + spot n b.instrs x) (sym z) ∙ zero-first (spot n b.instrs (0 + k))
        where
          zero-first : (x : ℕ) → 0 + x ≡ x
          zero-first x = omega arith

      first : points_from u 0 0 (with_saves c n b.instrs) ≡ map (spot_in n (b ∷ bs)) (points_from t 0 0 b.instrs)
      first =
          spots_of groups b.instrs h.0 n le 0 0
          ∙ map_same _ _ (λ k. ap (point 0) (none k)) (places t b.instrs)
          ∙ sym (map_map (spot_in n (b ∷ bs)) (λ k. point 0 (0 + k)) (places t b.instrs))
          ∙ ap (map (spot_in n (b ∷ bs))) (sym (points_are t 0 0 b.instrs))

      rest : points_in u 0 (saved_blocks c (behind_saves c n b.instrs) bs) ≡ map (spot_in (behind_saves c n b.instrs) bs) (points_in t 0 bs) → points_in u 1 (saved_blocks c (behind_saves c n b.instrs) bs) ≡ map (spot_in n (b ∷ bs)) (points_in t 1 bs)
      rest again =
          shift_in u 0 (saved_blocks c (behind_saves c n b.instrs) bs)
          ∙ ap (map shifted) again
          ∙ map_map shifted (spot_in (behind_saves c n b.instrs) bs) (points_in t 0 bs)
          ∙ sym (map_map (spot_in n (b ∷ bs)) shifted (points_in t 0 bs))
          ∙ ap (map (spot_in n (b ∷ bs))) (sym (shift_in t 0 bs))

-- ---- tests that pass the instruction itself, and tests that pass saves

-- no save passes that is written, and a suspend passes with its save as without
pub record IsOfOwn (c : Bool) (t u : Instr → Bool) (n : ℕ) (i : Instr) : Type 0 where
  pub save : is_bare c i ≡ true → u (save_call n) ≡ false
  pub saved_one : is_bare c i ≡ true → u (saved n i) ≡ t i
  pub lone : is_bare c i ≡ false → u i ≡ t i

pub own_group : (c : Bool) (t u : Instr → Bool) (n : ℕ) (i : Instr) → IsOfOwn c t u n i → (block at : ℕ) → points_from u block at (with_save c n i) ≡ (if t i then record { block = block; at = at + (0 + own_saves c (Some i)) } ∷ [] else [])
own_group c t u n i h block at = on (is_bare c i) refl
  where
    next : suc at ≡ at + (0 + 1)
    next = omega arith

    here : at ≡ at + (0 + 0)
    here = omega arith

    on : (b : Bool) → is_bare c i ≡ b → points_from u block at (if b then save_call n ∷ saved n i ∷ [] else i ∷ []) ≡ (if t i then point block (at + (0 + (if b then 1 else 0))) ∷ [] else [])
    on true e =
        ap (λ (s : Bool). if s then point block at ∷ points_from u block (suc at) (saved n i ∷ []) else points_from u block (suc at) (saved n i ∷ [])) (h.save e)
        ∙ ap (λ (s : Bool). if s then point block (suc at) ∷ [] else []) (h.saved_one e)
        ∙ ap (λ (k : ℕ). if t i then point block k ∷ [] else []) next
    on false e =
        ap (λ (s : Bool). if s then point block at ∷ [] else []) (h.lone e)
        ∙ ap (λ (k : ℕ). if t i then point block k ∷ [] else []) here
