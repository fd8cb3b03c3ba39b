use Rattle.std.proofs.Common.{◌∷◌, [], refl}
use Rattle.run_cli.specs.Stopping.{IsStop, file_of}
use Rattle.run_cli.proofs.FirstLoads.{all-asked, failed-one, too-long-one, from-memory}
use Rattle.run_cli.proofs.loading.load.Goals as goal

pub returns-in_err-failed_line-in-Err-Failed-clause-stop : goal.returns-in_err-failed_line-in-Err-Failed-clause-stop
returns-in_err-failed_line-in-Err-Failed-clause-stop g c =
    from-memory (IsStop (file_of c.args.role c.args.name.now ∷ []) (g.F.Files.view c.args.files.now) (g.F.Files.view c.load.new.self))
    c.from_residual.result c.from_residual.ensures (all-asked c.load.ensures.requests)

pub returns-in_err-too_long_line-in-Err-TooLong-clause-stop : goal.returns-in_err-too_long_line-in-Err-TooLong-clause-stop
returns-in_err-too_long_line-in-Err-TooLong-clause-stop g c =
    from-memory (IsStop (file_of c.args.role c.args.name.now ∷ []) (g.F.Files.view c.args.files.now) (g.F.Files.view c.load.new.self))
    c.from_residual-in_err-too_long_line-in-Err-TooLong.result c.from_residual-in_err-too_long_line-in-Err-TooLong.ensures (all-asked c.load.ensures.requests)

pub returns-in_ok-failed_line-in-Err-Failed-clause-stop : goal.returns-in_ok-failed_line-in-Err-Failed-clause-stop
returns-in_ok-failed_line-in-Err-Failed-clause-stop g c =
    let rose = rw c.in-Err-Failed.field-0-is at c.in-Err-Failed.ensures.load_faults in
    failed-one (file_of c.args.role c.args.name.now) (g.F.Files.view c.args.files.now) (g.F.Files.view c.load.new.self) c.load.ensures.requests
    5 c.in_ok-failed_line-in-Err-Failed.field-0.items rose refl c.in_ok-failed_line-in-Err-Failed.ensures

pub returns-in_ok-too_long_line-in-Err-TooLong-clause-stop : goal.returns-in_ok-too_long_line-in-Err-TooLong-clause-stop
returns-in_ok-too_long_line-in-Err-TooLong-clause-stop g c =
    let long = rw c.in-Err-TooLong.field-0-is at c.in-Err-TooLong.ensures.too_long refl in
    let many = rw c.most_bytes.ensures at long in
    let same = rw c.in-Err-TooLong.field-0-is at c.in-Err-TooLong.ensures.load_faults in
    too-long-one (file_of c.args.role c.args.name.now) (g.F.Files.view c.args.files.now) (g.F.Files.view c.load.new.self) c.load.ensures.requests
    4 c.in_ok-too_long_line-in-Err-TooLong.field-0.items many same refl c.in_ok-too_long_line-in-Err-TooLong.ensures

pub returns-in-Err-NoMemory-clause-stop : goal.returns-in-Err-NoMemory-clause-stop
returns-in-Err-NoMemory-clause-stop g c = all-asked c.load.ensures.requests
