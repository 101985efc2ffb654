-- Before any line. Assumes nothing.
use Rattle.std.proofs.Common.{◌≡◌, [], refl}
use Rattle.table.specs.Check.{word_in, check_of}
use Rattle.dispatch.specs.State.{zero_state}
use Rattle.dispatch.specs.Dispatch.{start_of}

-- A start from the empty list is refused, with the state whose numbers are all zero.
pub empty_start : (start_of []).state ≡ zero_state
unfolding start_of check_of word_in
empty_start = refl
