use Rattle.std.proofs.Common.{◌≡◌, List, ℕ, map, drop}
use Rattle.std.specs.Borrow.{Bor}
use Rattle.command_words.specs.Steps.{each_some}
use Rattle.command_words.specs.Tables.{table_word}
use Rattle.command_words.proofs.EachSome.{with_front}
use Rattle.command_words.proofs.tables.read_tables.Given as goal

abbrev pub invariant-loop-word : goal.invariant-loop-word
invariant-loop-word l =
    with_front l.tables.items (each_some table_word (map (λ (x : Bor (List ℕ)). x.now) (drop l.word-index l.words)))
    ≡ each_some table_word (map (λ (x : Bor (List ℕ)). x.now) l.words)
