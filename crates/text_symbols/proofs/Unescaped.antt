-- A turn of the loop over the bytes between quotes.
use Rattle.std.proofs.Common.{◌≡◌, ◌<◌, ℕ, List, [], ◌∷◌, ◌++◌, length}
use Rattle.std.specs.Prelude.{Some}
use Rattle.text_lexer.specs.Lists.{all_at}
use Rattle.text_lexer.proofs.ListSteps.{behind, all_turn}
use Rattle.text_symbols.specs.Names.{byte_at}

pub bytes_turn : (text : List ℕ) (xs ys : List ℕ) (ts : List ℕ) (x : ℕ) (rest : List ℕ) → all_at byte_at text ≡ behind xs (all_at byte_at ts) → byte_at ts ≡ Some (x, rest) → length rest < length ts → ys ≡ xs ++ x ∷ [] → all_at byte_at text ≡ behind ys (all_at byte_at rest)
bytes_turn text xs ys ts x rest inv e less items = all_turn byte_at (all_at byte_at text) xs ys ts x rest inv e less items
