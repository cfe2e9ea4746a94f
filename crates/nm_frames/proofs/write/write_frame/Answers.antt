use Rattle.nm_frames.proofs.write.write_frame.Goals as goal

pub returns-in-Hello-clause-fits : goal.returns-in-Hello-clause-fits
returns-in-Hello-clause-fits c = rw c.in-Hello.is c.write_hello.ensures.fits

pub returns-in-Have-clause-fits : goal.returns-in-Have-clause-fits
returns-in-Have-clause-fits c = rw c.in-Have.is c.write_have.ensures.fits

pub returns-in-Data-clause-fits : goal.returns-in-Data-clause-fits
returns-in-Data-clause-fits c = rw c.in-Data.is c.write_data.ensures.fits

pub returns-in-Data-clause-ok : goal.returns-in-Data-clause-ok
returns-in-Data-clause-ok c = rw c.in-Data.is c.write_data.ensures.ok

pub returns-in-Null-clause-fits : goal.returns-in-Null-clause-fits
returns-in-Null-clause-fits c = rw c.in-Null.is c.write_null.ensures.fits
