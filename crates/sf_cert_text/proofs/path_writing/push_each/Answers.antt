use Rattle.std.proofs.Common.{subst}
use Rattle.sf_cert_text.proofs.Common.{All-more, FitsPath}
use Rattle.sf_cert_text.proofs.PathTexts.{lines-more}
use Rattle.sf_cert_text.proofs.path_writing.push_each.Goals as goal

pub loop-path-preserved : goal.loop-path-preserved
loop-path-preserved c =
    let paths = c.args.paths.now in
    let i = c.loop-path.path-index in
    let path = c.path-item.result in
    record {
      text = lines-more paths i path _ _ _ c.loop-path-test.true c.path-item.is c.loop-path.invariant.text c.in_ok-push_path.ensures.text;
      fits = All-more FitsPath paths i path c.loop-path-test.true c.loop-path.invariant.fits (subst FitsPath c.path-item.is c.in_ok-push_path.ensures.fits);
    }
