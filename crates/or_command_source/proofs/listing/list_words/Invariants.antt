use Rattle.std.proofs.Common.{◌≡◌, ◌<◌, ◌+◌, ◌%◌, ◌^◌, length}
use Rattle.or_command.specs.Leaves.{Silent}
use Rattle.or_command_source.specs.Listing.{word_lines}
use Rattle.or_command.specs.Pieces.{SoFar}
use Rattle.or_command_source.proofs.listing.list_words.Given as goal

abbrev pub invariant-loop-word : goal.invariant-loop-word
invariant-loop-word g l = record {
  aligned : l.place % 4 ≡ 0;
  small : l.place + length l.rest < 2 ^ 32;
  so_far : SoFar (word_lines l.place l.rest) (word_lines l.first l.bytes) (g.H.Host.state l.initial.host) (g.H.Host.state l.host);
  silent : Silent (g.H.Host.state l.initial.host) (g.H.Host.state l.host);
}

abbrev pub decreases-loop-word : goal.decreases-loop-word
decreases-loop-word g l = length l.rest
