-- What is told of an image that a command opens a board over, and of the recording that it writes.
use Rattle.std.specs.Prelude.{ℕ, List}
use Rattle.sha2.specs.Sha256.{sha256}
use Rattle.or_words.specs.declared.Config.{Config}
use Rattle.or_sched.specs.declared.recording.Head.{Head}

-- the head of the recording: the settings, and the digests of the image and of the input
unfoldable pub head_of : Config → List ℕ → List ℕ → Head
head_of config image input = record { config = config; image = sha256 image; input = sha256 input }
