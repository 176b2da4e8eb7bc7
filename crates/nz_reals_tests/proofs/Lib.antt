mod TheoryOverLog
