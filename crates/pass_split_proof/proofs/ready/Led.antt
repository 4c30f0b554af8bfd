-- Where a path leads on from a block to which one leads from the entry, one leads to its end from the entry too.
use Rattle.std.proofs.Common.{◌≡◌, inl, inr, ℕ, Bool, true, false, List, [], ◌∷◌, length, map, refl, sym, ap, ◌∙◌, subst}
use Rattle.std.proofs.lemmas.Bool.{false≢true}
use Rattle.std.specs.Prelude.{None, Option, Some, nat_lt, slice_get, ◌+◌, ◌||◌, ◌==◌, if◌then◌else◌}
use Rattle.pass_proofs.specs.flow_solver.Paths.{IsListed}
use Rattle.pass_proofs.proofs.ir_laws.facts.Lists.{label_found}
use Rattle.pass_proofs.proofs.ir_laws.facts.Truth.{and_first, equal_numbers}
use Rattle.pass_proofs.specs.ir_model.Names.{position_of}
use Rattle.pass_proofs.specs.ir_model.declared.module.Block.{Block}
use Rattle.pass_proofs.specs.ir_model.declared.module.Function.{Function}
use Rattle.pass_proofs.specs.ir_paths.Paths.{IsPath, Leads, entry_point, has_point, nexts, nexts_in, same_point, targets}
use Rattle.pass_proofs.specs.ir_paths.declared.point.Point.{Point}
use Rattle.pass_proofs.specs.split.rules.Reached.{Edge, IsLedTo}
use Rattle.pass_proofs.specs.pass_split.Reached.{targets_in}

-- a path leads from the entry to the block of a point, if there is one
pub record IsAtLed (f : Function) (p : Point) : Type 0 where
  pub led : (b : Block) → slice_get f.blocks p.block ≡ Some b → IsLedTo f b.label

same_block : (p q : Point) → same_point p q ≡ true → p.block ≡ q.block
same_block p q e = equal_numbers p.block q.block (and_first (p.block == q.block) (p.at == q.at) e)

one_point : (v x : Point) → has_point (v ∷ []) x ≡ true → x.block ≡ v.block
one_point v x e = on (same_point x v) refl e
  where
    on : (b : Bool) → same_point x v ≡ b → (b || false) ≡ true → x.block ≡ v.block
    on true h k = same_block x v h
    on false h k = absurd (false≢true k)

module _ (f : Function) where
  -- the label of an edge to a point
  record IsTarget (labels : List ℕ) (x : Point) : Type 0 where
    label : ℕ
    listed : IsListed label labels
    at : x.block ≡ position_of f label

  target_of : (labels : List ℕ) (x : Point) → has_point (map (entry_point f) labels) x ≡ true → IsTarget labels x
  target_of [] x e = absurd (false≢true e)
  target_of (l ∷ labels) x e = on (same_point x (entry_point f l)) refl e (target_of labels x)
    where
      on : (b : Bool) → same_point x (entry_point f l) ≡ b → (b || has_point (map (entry_point f) labels) x) ≡ true
          → (has_point (map (entry_point f) labels) x ≡ true → IsTarget labels x) → IsTarget (l ∷ labels) x
      on true h k more = record { label = l; listed = inl refl; at = same_block x (entry_point f l) h }
      on false h k more = let y = more k in record { label = y.label; listed = inr y.listed; at = y.at }

  module _ (own : (k : ℕ) (b : Block) → slice_get f.blocks k ≡ Some b → position_of f b.label ≡ k) where
    led_there : (p x : Point) → IsAtLed f p → x.block ≡ p.block → IsAtLed f x
    led_there p x h e = record { led = λ b got. h.led b (ap (slice_get f.blocks) (sym e) ∙ got) }

    led_next : (p x : Point) → IsAtLed f p → has_point (nexts f p) x ≡ true → IsAtLed f x
    led_next p x h e = by_block (slice_get f.blocks p.block) refl e
      where
        crosses : (b : Block) → slice_get f.blocks p.block ≡ Some b → IsTarget (targets b.term) x → IsAtLed f x
        crosses b got y = record {
          led = λ c there.
              let same : c.label ≡ y.label = label_found f y.label c (ap (slice_get f.blocks) (sym y.at) ∙ there) in
              let home : slice_get f.blocks (position_of f b.label) ≡ Some b = ap (slice_get f.blocks)
              (own p.block b got)
              ∙ got in
              subst (IsLedTo f) (sym same) (Edge b.label y.label (h.led b got)
              (subst (λ (o : Option Block). IsListed y.label (targets_in o)) (sym home) y.listed));
        }

        by_place : (b : Block) → slice_get f.blocks p.block ≡ Some b → (t u : Bool)
            → has_point (if t then record { block = p.block; at = p.at + 1 } ∷ [] else if u then map (entry_point f)
            (targets b.term) else []) x ≡ true → IsAtLed f x
        by_place b got true u k = led_there p x h (one_point (record { block = p.block; at = p.at + 1 }) x k)
        by_place b got false true k = crosses b got (target_of (targets b.term) x k)
        by_place b got false false k = absurd (false≢true k)

        by_block : (o : Option Block) → slice_get f.blocks p.block ≡ o → has_point (nexts_in f p o) x ≡ true
            → IsAtLed f x
        by_block None got k = absurd (false≢true k)
        by_block (Some b) got k = by_place b got (nat_lt p.at (length b.instrs)) (p.at == length b.instrs) k

    led_path : (p q : Point) (between : List Point) → IsAtLed f p → IsPath f [] p between q → IsAtLed f q
    led_path p q [] h way = led_next p q h way
    led_path p q (v ∷ between) h way = led_path v q between (led_next p v h way.0) way.2

    pub led_on : (p q : Point) → IsAtLed f p → Leads f [] p q → IsAtLed f q
    led_on p q h l = led_path p q l.between h l.is_path
