-- What the facts of an analysis mean: their order, least upper bounds, what edges make of them, and the laws.
use Rattle.std.specs.Prelude.{ℕ, ◌<◌, ◌≤◌}

pub record Domain (Fact : Type 0) : Type 1 where
  -- which values are facts of the analysis
  pub IsFact : Fact → Type 0
  -- that the second says all that the first does
  pub Below : Fact → Fact → Type 0
  -- the edges of which the analysis knows what they make of facts
  pub HasEdge : ℕ → Type 0
  pub bottom : Fact
  pub joined : Fact → Fact → Fact
  pub carried : ℕ → Fact → Fact
  -- how far a fact has risen, at most to the height
  pub rank : Fact → ℕ
  pub height : ℕ

abbrev pub MeansSame : {Fact : Type 0} → Domain Fact → Fact → Fact → Type 0
MeansSame d a b = d.Below a b × d.Below b a

-- the order has least upper bounds, edges distribute over them and keep bottom, and facts rise so often at most as the
-- height says
pub record IsLattice {Fact : Type 0} (d : Domain Fact) : Type 0 where
  pub reflexive : (a : Fact) → d.Below a a
  pub transitive : (a b c : Fact) → d.Below a b → d.Below b c → d.Below a c
  pub bottom_is_fact : d.IsFact d.bottom
  pub bottom_below : (a : Fact) → d.IsFact a → d.Below d.bottom a
  pub joined_is_fact : (a b : Fact) → d.IsFact a → d.IsFact b → d.IsFact (d.joined a b)
  pub joined_left : (a b : Fact) → d.IsFact a → d.IsFact b → d.Below a (d.joined a b)
  pub joined_right : (a b : Fact) → d.IsFact a → d.IsFact b → d.Below b (d.joined a b)
  pub joined_least : (a b c : Fact) → d.IsFact a → d.IsFact b → d.Below a c → d.Below b c → d.Below (d.joined a b) c
  pub carried_is_fact : (e : ℕ) (a : Fact) → d.HasEdge e → d.IsFact a → d.IsFact (d.carried e a)
  pub carried_rises : (e : ℕ) (a b : Fact) → d.HasEdge e → d.IsFact a → d.IsFact b → d.Below a b → d.Below (d.carried e a) (d.carried e b)
  pub carried_bottom : (e : ℕ) → d.HasEdge e → d.Below (d.carried e d.bottom) d.bottom
  pub carried_joined : (e : ℕ) (a b : Fact) → d.HasEdge e → d.IsFact a → d.IsFact b → d.Below (d.carried e (d.joined a b)) (d.joined (d.carried e a) (d.carried e b))
  pub rank_bounded : (a : Fact) → d.IsFact a → d.rank a ≤ d.height
  pub rank_rises : (a b : Fact) → d.IsFact a → d.IsFact b → d.Below a b → (d.Below b a → ⊥) → d.rank a < d.rank b
