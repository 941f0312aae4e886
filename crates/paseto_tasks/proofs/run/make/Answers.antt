use Rattle.paseto_keys.specs.AnyKey.{parts_of}
use Rattle.paseto_tasks.proofs.Tasks.{task_reads, task_writes}
use Rattle.paseto_tasks.proofs.run.make.Goals as goal

pub returns-in-Encrypt : goal.returns-in-Encrypt
returns-in-Encrypt g c =
    task_writes c.args.options.now _ (parts_of c.args.key.now) (g.R.Read.remaining c.args.input.now) _ c.args.task c.write.result c.in-Encrypt.is
    c.in_ok-suits.ensures.fits c.write.ensures

pub returns-in-Decrypt : goal.returns-in-Decrypt
returns-in-Decrypt g c =
    task_reads c.args.options.now _ (parts_of c.args.key.now) (g.R.Read.remaining c.args.input.now) _ c.args.task c.read.result c.in-Decrypt.is
    c.in_ok-suits.ensures.fits c.read.ensures
