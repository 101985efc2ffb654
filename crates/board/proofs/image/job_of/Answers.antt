-- `board::image::job_of` meets its contract: the four saved deadlines are filled in place by place (`filled`). Assumes nothing.
use Rattle.std.proofs.Common.{rules, ◌≡◌, refl}
use Rattle.board.proofs.Parts.{saved_of, saved_in}
use Rattle.board.proofs.Filled.{filled}
use Rattle.board.proofs.image.job_of.Goals as goal

pub returns : goal.returns
returns c =
    let row = c.args.row.now in
    let saved : c.from_fn.result ≡ saved_of row = filled _ _ _ (saved_of row) _ 0 refl (λ k y q h called. let same = saved_in row k h in search rules) c.from_fn.ensures.items in
    rw saved
